-- The lines of entries are printed one after the other.
use Rattle.std.proofs.Common.{◌≡◌, ℕ, true, false, zero, suc, ◌+◌, ◌≤◌, ◌<◌, List, [], ◌∷◌, ◌++◌, length, map, take, Option, Some, None, refl, sym, ap, subst, ◌∙◌, append_assoc, arith}
use Rattle.std.specs.Prelude.{slice_get, Contains}
use Rattle.std.specs.Io.KnownBytes.{Appends}
use Rattle.std.proofs.lemmas.List.{append-nil, flat_map_more}
use Rattle.gfs_types.specs.declared.answer.Answer.{Answer}
use Rattle.gfs_types.specs.declared.ids.Node.{Node}
use Rattle.gfs_types.specs.declared.ids.Node.TheVariants as node
use Rattle.protocol_journal.specs.Journal.{StepCause, Calls, Takes, Restarts, Entry}
use Rattle.protocol_journal.specs.Whole.{raised_cause, raised_entry}
use Rattle.cell_journal.specs.Identity.{Closed}
use Rattle.cell_journal.specs.Retained.{gone_of}
use Rattle.cell_journal.specs.WholeHistories.{whole_of}
use Rattle.cell_seats.specs.Journals.{JournalState, all_in, AreBehind}
use Rattle.cell_looks.specs.Noted.{is_client}
use Rattle.cell_looks.proofs.Appending.{appends_none, appends_twice, take_all}
use Rattle.cell_looks.proofs.Behind.{behind, behind_whole, taken}
use Rattle.cell_looks.specs.declared.history_fault.HistoryFault.{HistoryFault}
use Rattle.cell_looks.specs.declared.history_fault.HistoryFault.TheVariants as fault
use Rattle.cell_looks.specs.HistoryLines.{asked_by, answered_by, entry_lines, history_lines, IsHistoryFault}

-- of one entry

pub both_printed : (a b c : Option (List ℕ)) (e : Entry) (n : Node) (moment : ℕ) (cause : StepCause) (reply : Option Answer) → e.node ≡ n → moment ≡ e.moment → cause ≡ e.cause → reply ≡ e.out.answer
    → Appends a b (asked_by moment n cause) → Appends b c (answered_by moment n reply) → Appends a c (entry_lines e)
both_printed a b c e n moment cause reply node_is moment_is cause_is reply_is first last =
    subst (λ (l : List ℕ). Appends a c l) same (appends_twice a b c (asked_by moment n cause) (answered_by moment n reply) first last)
  where
    same : asked_by moment n cause ++ answered_by moment n reply ≡ entry_lines e
    same =
        ap (λ (m : ℕ). asked_by m n cause ++ answered_by m n reply) moment_is
        ∙ (ap (λ (k : Node). asked_by e.moment k cause ++ answered_by e.moment k reply) (sym node_is)
        ∙ (ap (λ (t : StepCause). asked_by e.moment e.node t ++ answered_by e.moment e.node reply) cause_is
        ∙ ap (λ (o : Option Answer). asked_by e.moment e.node e.cause ++ answered_by e.moment e.node o) reply_is))

nothing_of : (moment : ℕ) (n : Node) (cause : StepCause) (reply : Option Answer) → is_client n ≡ false → asked_by moment n cause ++ answered_by moment n reply ≡ []
nothing_of moment node.Master cause reply is = refl
nothing_of moment (node.Server s) cause reply is = refl
nothing_of moment (node.Client c) cause reply is = absurd (let both : true ≡ false = is in cc)

-- of one that is no client's
pub none_of_it : (a : Option (List ℕ)) (e : Entry) → is_client e.node ≡ false → Appends a a (entry_lines e)
none_of_it a e is = subst (λ (l : List ℕ). Appends a a l) (sym (nothing_of e.moment e.node e.cause e.out.answer is)) (appends_none a)

-- of a list

take_at : (es : List Entry) (k : ℕ) (e : Entry) → slice_get es k ≡ Some e → take (suc k) es ≡ take k es ++ e ∷ []
take_at [] k e h = absurd (let none : None ≡ Some e = h in cc)
take_at (x ∷ es) zero e h = ap (λ (y : Entry). y ∷ []) (let same : Some x ≡ Some e = h in cc)
take_at (x ∷ es) (suc k) e h = ap (λ (l : List Entry). x ∷ l) (take_at es k e h)

-- one entry more
pub next_printed : (a b c : Option (List ℕ)) (es : List Entry) (k : ℕ) (e : Entry) → slice_get es k ≡ Some e → Appends a b (history_lines (take k es)) → Appends b c (entry_lines e) → Appends a c (history_lines (take (k + 1) es))
next_printed a b c es k e at before one =
    let next : k + 1 ≡ suc k = omega arith in
    let all : history_lines (take (k + 1) es) ≡ history_lines (take k es) ++ entry_lines e =
    ap (λ (n : ℕ). history_lines (take n es)) next ∙ (ap history_lines (take_at es k e at) ∙ sym (flat_map_more entry_lines [] (take k es) e)) in
    subst (λ (l : List ℕ). Appends a c l) (sym all) (appends_twice a b c (history_lines (take k es)) (entry_lines e) before one)

pub all_printed : (a b : Option (List ℕ)) (es : List Entry) (k : ℕ) → length es ≤ k → Appends a b (history_lines (take k es)) → Appends a b (history_lines es)
all_printed a b es k past printed = subst (λ (l : List Entry). Appends a b (history_lines l)) (take_all es k past) printed

-- of one journal after the other

same_call : (before moment : ℕ) (n : Node) (cause : StepCause) → asked_by moment n (raised_cause before cause) ≡ asked_by moment n cause
same_call before moment node.Master cause = refl
same_call before moment (node.Server s) cause = refl
same_call before moment (node.Client c) (Calls call) = refl
same_call before moment (node.Client c) (Takes given) = refl
same_call before moment (node.Client c) Restarts = refl

same_lines : (before : ℕ) (e : Entry) → entry_lines (raised_entry before e) ≡ entry_lines e
same_lines before e = ap (λ (l : List ℕ). l ++ answered_by e.moment e.node e.out.answer) (same_call before e.moment e.node e.cause)

-- What was printed, and what the journals that are left have, is the whole.
abbrev pub IsPrintedUpTo : Option (List ℕ) → Option (List ℕ) → List Closed → List ℕ → Type 0
IsPrintedUpTo a b left all = (text : List ℕ) × Appends a b text × (text ++ behind entry_lines left ≡ all)

pub none_printed : (a : Option (List ℕ)) (left : List Closed) (j : JournalState) → left ≡ all_in j → AreBehind j.now.cell j.earlier → IsPrintedUpTo a a left (history_lines (whole_of j.now))
none_printed a left j all base = ([], appends_none a, ap (behind entry_lines) all ∙ behind_whole entry_lines same_lines j.now j.earlier base)

module _ {X : Type 0} (f : X → Closed) where
  pub one_printed : (a b c : Option (List ℕ)) (was now : List X) (x : X) (all : List ℕ) → was ≡ now ++ x ∷ [] → Appends b c (history_lines (f x).entries) → IsPrintedUpTo a b (map f was) all → IsPrintedUpTo a c (map f now) all
  one_printed a b c was now x all is one (text, before, inv) =
      let lines : List ℕ = history_lines (f x).entries in (
        text ++ lines,
        appends_twice a b c text lines before one,
        append_assoc text lines (behind entry_lines (map f now)) ∙ (ap (λ (l : List ℕ). text ++ l) (sym (taken entry_lines f was now x is)) ∙ inv),
      )

  pub whole_printed : (a b : Option (List ℕ)) (left : List X) (all : List ℕ) → left ≡ [] → IsPrintedUpTo a b (map f left) all → Appends a b all
  whole_printed a b left all none (text, before, inv) =
      subst (λ (l : List ℕ). Appends a b l) (sym (append-nil text) ∙ (ap (λ (l : List X). text ++ behind entry_lines (map f l)) (sym none) ∙ inv)) before

-- why not all were printed
pub fault_of_one : (j : JournalState) (one : Closed) (f : HistoryFault) → Contains (all_in j) one → (f ≡ fault.Partial → 0 < gone_of one.cell.retention (length one.entries)) → IsHistoryFault j f
fault_of_one j one fault.Partial there h = record { journal = one; one = there; gone = h refl }
fault_of_one j one fault.NoMemory there h = tt
fault_of_one j one fault.Write there h = tt
