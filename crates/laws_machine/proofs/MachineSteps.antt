-- What a note or a look of a client changes at the machine: of the client alone, and what is done of its call stays done.
use Rattle.std.proofs.Common.{◌≡◌, ◌⊎◌, ℕ, suc, ◌/◌, ◌≤◌, true, false, List, [], ◌∷◌, Option, Some, None, refl, sym, ap, subst, ◌∙◌, inl, inr, arith}
use Rattle.std.specs.Prelude.{Contains, IfSome, option_map}
use Rattle.gfs_types.specs.declared.call.Call.{Call}
use Rattle.gfs_types.specs.declared.call.Call.TheVariants as call
use Rattle.relaxed_file.specs.Order.{CallId}
use Rattle.relaxed_file.specs.Machine.{Machine, Client, OpenCall, IsOpen, Piece, with_client, with_step, chunk_size}
use Rattle.relaxed_file.specs.Answers.{HasSuccess, IsWrite}
use Rattle.relaxed_file.specs.Run.{Action, Visible, Allows, after, shown, visible}
use Rattle.relaxed_file.proofs.Tables.{put_same, put_other}
use Rattle.machine_names.specs.NameRuns.{is_name_action}
use Rattle.machine_names.proofs.Chunks.{chunk_actions_keep_names}
use Rattle.protocol.specs.Client.{ClientDoing}
use Rattle.std.specs.List.{cons_option}
use Rattle.laws_base.proofs.Steps.{same_or_not}
use Rattle.laws_machine.specs.FileClients.{AreWhole, IsDoneSoFar, IsElsewhereSame, IsFollowed, IsOwnAction}
use Rattle.laws_machine.proofs.ClientCaches.{note_put, note_there, note_apart}

-- one more action that no client sees comes first
pub comes_first : (m : Machine) (client : ℕ) (d : ClientDoing) (a : Action) → Allows m a → shown a ≡ None → is_name_action a ≡ false → IsOwnAction client a → IsElsewhereSame m client (after m a) → IsFollowed (after m a) client d → IsFollowed m client d
comes_first m client d a may unseen unnamed mine same f =
    record {
      actions = a ∷ f.actions;
      allowed = (may, f.allowed);
      own = (mine, f.own);
      seen = ap (λ (o : Option Visible). cons_option o (visible f.actions)) unseen ∙ f.seen;
      elsewhere = record {
        config = f.elsewhere.config ∙ same.config;
        clock = f.elsewhere.clock ∙ same.clock;
        names = f.elsewhere.names ∙ same.names;
        file_count = f.elsewhere.file_count ∙ same.file_count;
        files = f.elsewhere.files ∙ same.files;
        others = λ q not. f.elsewhere.others q not ∙ same.others q not;
      };
      names = λ n h. f.names n (chunk_actions_keep_names m n a h unnamed may);
      alike = f.alike;
    }

-- a client's state is put in
module _ (m : Machine) (client : ℕ) (t : Client) where
  pub put_elsewhere : IsElsewhereSame m client (with_client m client t)
  put_elsewhere = record { config = refl; clock = refl; names = refl; file_count = refl; files = refl; others = λ q not. put_other client t m.clients q not }

  pub in_client : (P : Client → Type 0) → P t → P ((with_client m client t).clients client)
  in_client P h = subst P (sym (put_same client t m.clients)) h

-- notes only rise
abbrev pub DoRise : (ℕ → ℕ → Option ℕ) → (ℕ → ℕ → Option ℕ) → Type 0
DoRise old new = (file index least : ℕ) → old file index ≡ Some least → (later : ℕ) × (new file index ≡ Some later) × (least ≤ later)

pub same_rise : (notes : ℕ → ℕ → Option ℕ) → DoRise notes notes
same_rise notes file index least is = (least, is, omega arith)

pub put_rises : (notes : ℕ → ℕ → Option ℕ) (file index round : ℕ) → IfSome (notes file index) (λ before. before ≤ round) → DoRise notes (note_put file index round notes)
put_rises notes file index round rising f i least is = by_file (same_or_not f file) (same_or_not i index)
  where
    low : f ≡ file → i ≡ index → least ≤ round
    low one two = subst (λ (o : Option ℕ). IfSome o (λ before. before ≤ round)) (ap (λ (g : ℕ). notes g index) (sym one) ∙ ap (λ (j : ℕ). notes f j) (sym two) ∙ is) rising

    by_file : (f ≡ file) ⊎ (f ≡ file → ⊥) → (i ≡ index) ⊎ (i ≡ index → ⊥) → (later : ℕ) × (note_put file index round notes f i ≡ Some later) × (least ≤ later)
    by_file (inl one) (inl two) = (round, note_there file index round notes (record { file = f; index = i }) (sym one) (sym two), low one two)
    by_file (inl one) (inr two) = (least, note_apart file index round notes f i (inr two) ∙ is, omega arith)
    by_file (inr one) other = (least, note_apart file index round notes f i (inl one) ∙ is, omega arith)

-- more pieces
abbrev pub HaveAll : List Piece → List Piece → Type 0
HaveAll old new = (p : Piece) → Contains old p → Contains new p

pub one_more : (p : Piece) (ps : List Piece) → HaveAll ps (p ∷ ps)
one_more p ps q there = (suc there.0, (let low = there.1 in omega (arith, low)), there.2)

pub whole_on : (size offset count part index : ℕ) (old new ps : List Piece) → HaveAll old new → AreWhole size offset count old part index ps → AreWhole size offset count new part index ps
whole_on size offset count part index old new [] all h = h
whole_on size offset count part index old new (p ∷ ps) all h = (h.0, all p h.1, h.2, h.3, whole_on size offset count part (suc index) old new ps all h.4)

success_on : (m : Machine) (client : ℕ) (t : Client) (id : CallId) (file index : ℕ) → DoRise (m.clients client).notes t.notes → HasSuccess m client id file index IsWrite → HasSuccess (with_client m client t) client id file index IsWrite
success_on m client t id file index rise h =
    let on = rise file index h.0 h.1 in
    let success = h.4 in (
      on.0,
      in_client m client t (λ (c : Client). c.notes file index ≡ Some on.0) on.1,
      h.2,
      h.3,
      (success.0, success.1, (let low = success.2 in let up = on.2 in omega (arith, low, up))),
      h.5,
    )

pub done_on : (m : Machine) (client : ℕ) (t : Client) (number file part : ℕ) (bytes rounds : List ℕ) (old new : List Piece) (c : Call) → DoRise (m.clients client).notes t.notes → HaveAll old new
    → IsDoneSoFar m (record { client = client; number = number }) file part bytes rounds old c → IsDoneSoFar (with_client m client t) (record { client = client; number = number }) file part bytes rounds new c
done_on m client t number file part bytes rounds old new (call.Write fd offset content) rise all h =
    (h.0, h.1, λ earlier low has. success_on m client t (record { client = client; number = number }) file earlier rise (h.2 earlier low has))
done_on m client t number file part bytes rounds old new (call.Append fd content) rise all h = h
done_on m client t number file part bytes rounds old new (call.Read fd offset count) rise all h =
    (h.0, h.1, record { pieces = h.2.pieces; are_whole = whole_on (chunk_size m file) offset count part (offset / chunk_size m file) old new h.2.pieces all h.2.are_whole; bytes_are = h.2.bytes_are; rounds_are = h.2.rounds_are })
done_on m client t number file part bytes rounds old new (call.Length fd) rise all h = tt
done_on m client t number file part bytes rounds old new other rise all h = absurd h

-- the open call takes a step

abbrev pub stepped_client : Machine → ℕ → (OpenCall → OpenCall) → Client
stepped_client m client change = record (m.clients client) { open_call = option_map (λ current. record (change current) { has_begun = true }) (m.clients client).open_call }

pub step_open : (m : Machine) (client : ℕ) (change : OpenCall → OpenCall) (o : OpenCall) → IsOpen m client o → IsOpen (with_step m client change) client (record (change o) { has_begun = true })
step_open m client change o is =
    in_client m client (stepped_client m client change) (λ (c : Client). c.open_call ≡ Some (record (change o) { has_begun = true }))
    (ap (λ (x : Option OpenCall). option_map (λ (current : OpenCall). record (change current) { has_begun = true }) x) is)
