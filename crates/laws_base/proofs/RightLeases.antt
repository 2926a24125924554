-- What a lease's order says of its attempts was shown: each that waits was numbered, and each that is kept as settled became so. What an order becomes says no more than that.
use Rattle.std.proofs.Common.{◌≡◌, ℕ, ◌+◌, ◌≤◌, Bool, true, false, cond, Option, Some, None, refl, sym, ap, subst, ◌∙◌, inl, inr, arith}
use Rattle.std.specs.Prelude.{◌==◌, ◌&&◌, nat_lt}
use Rattle.std.specs.Ordering.{nat_cmp}
use Rattle.std.specs.FinMap as table
use Rattle.std.proofs.lemmas.Bool.{eqb-true, cases_lt}
use Rattle.gfs_types.specs.declared.ids.ClientId.{ClientId}
use Rattle.gfs_types.specs.declared.ids.DataId.{DataId}
use Rattle.gfs_types.specs.declared.mutation.Mutation.{Mutation}
use Rattle.gfs_types.specs.declared.refusal.Refusal.{Refusal}
use Rattle.messages.specs.declared.message.Body.{Body}
use Rattle.messages.specs.declared.message.Body.TheVariants as body
use Rattle.leases.specs.LeaseHeld.{LeaseHeld, counts_at, extended}
use Rattle.primary_order.specs.declared.kept.Kept.{Kept}
use Rattle.primary_order.specs.declared.kept.Standing.{Standing}
use Rattle.primary_order.specs.declared.kept.Standing.TheVariants.{IsPending, IsSettled, IsRefused}
use Rattle.primary_order.specs.declared.waiting.Waiting.{Waiting}
use Rattle.primary_order.specs.PrimaryOrder.{place_of, kept_as, with_standing, stood_by, settled_by, settled_kept, waiting_by, is_last, less_member}
use Rattle.primary_order.specs.SerialOrder.{SerialOrder, IsNew, new_order, attempted, denied, numbered, acknowledged, refused_by, attempt_of}
use Rattle.protocol.specs.Tables.{Table}
use Rattle.protocol.specs.Sending.{handle_of, version_of, serial_of, data_id}
use Rattle.protocol.specs.declared.seen.Seen.{Seen}
use Rattle.protocol.specs.declared.seen.Seen.TheVariants.{Numbered, BecameSettled}
use Rattle.protocol.specs.ServerStep.{asks_no_more}
use Rattle.laws_base.proofs.Steps.{on_cond, none_some, put_cases, kept_cases}
use Rattle.laws_base.specs.Successes.{IsNumberedAs, IsSettledAs}
use Rattle.laws_base.proofs.KnownNumbers.{IsKept}
use Rattle.laws_base.proofs.UsedNumbers.{knows_keeps, own_kept}
use Rattle.laws_base.proofs.WellKept.{IsWellKept, well_numbered, well_denied, well_refused, well_acknowledged, well_extended, well_reported, well_new}

-- under this version of the chunk
abbrev pub IsSettledHere : (Seen → Type 0) → ℕ → ℕ → DataId → Option ℕ → Type 0
IsSettledHere K q v id place = (h : IsSettledAs K id place) × (h.handle ≡ q) × (h.version ≡ v)

-- This serial was given to a mutation of which the number is kept, or a later one of its client.
pub record IsGiven (K : Seen → Type 0) (q v n : ℕ) (kept : Table Kept) : Type 0 where
  pub id : DataId
  pub placed : Mutation
  pub numbered : K (Numbered (handle_of q) (version_of v) (serial_of n) id placed)
  pub known : IsKept id.client.0 id.seq kept

pub record IsRight (K : Seen → Type 0) (q : ℕ) (p : SerialOrder) : Type 0 where
  pub waits : (n : ℕ) (w : Waiting) → table.get p.waiting n ≡ Some w → IsNumberedAs K q p.held.version n (attempt_of w) w.place
  pub keeps : (c : ℕ) (k : Kept) (place : Option ℕ) → table.get p.kept c ≡ Some k → k.standing ≡ IsSettled place → IsSettledHere K q p.held.version (data_id c k.seq) place
  pub well : IsWellKept p
  pub given : (n : ℕ) → 1 ≤ n → n ≤ p.serial → IsGiven K q p.held.version n p.kept

-- what is said of a success
abbrev pub IsCaused : (Seen → Type 0) → Body → Type 0
IsCaused K (body.Done id place) = IsSettledAs K id (Some place)
IsCaused K other = Unit {0}

-- what was shown stays shown
module _ (K L : Seen → Type 0) (go : (x : Seen) → K x → L x) where
  abbrev pub numbered_on : (q v n : ℕ) (id : DataId) (place : Option ℕ) → IsNumberedAs K q v n id place → IsNumberedAs L q v n id place
  numbered_on q v n id place h = record { placed = h.placed; place_is = h.place_is; numbered = go (Numbered (handle_of q) (version_of v) (serial_of n) id h.placed) h.numbered }

  abbrev pub settled_on : (id : DataId) (place : Option ℕ) → IsSettledAs K id place → IsSettledAs L id place
  settled_on id place h =
      record {
        handle = h.handle;
        version = h.version;
        serial = h.serial;
        numbered = numbered_on h.handle h.version h.serial id place h.numbered;
        settled = go (BecameSettled (handle_of h.handle) (version_of h.version) (serial_of h.serial)) h.settled;
      }

  pub right_on : (q : ℕ) (p : SerialOrder) → IsRight K q p → IsRight L q p
  right_on q p h =
      record {
        waits = λ n w at. numbered_on q p.held.version n (attempt_of w) w.place (h.waits n w at);
        keeps = λ c k place at is. let was = h.keeps c k place at is in (settled_on (data_id c k.seq) place was.0, was.1, was.2);
        well = h.well;
        given = λ n least most. let was = h.given n least most in record { id = was.id; placed = was.placed; numbered = go (Numbered (handle_of q) (version_of p.held.version) (serial_of n) was.id was.placed) was.numbered; known = was.known };
      }

  pub caused_on : (b : Body) → IsCaused K b → IsCaused L b
  caused_on (body.Done id place) h = settled_on id (Some place) h
  caused_on other h = tt

-- what is kept for an attempt becomes something else
module _ (K : Seen → Type 0) where
  abbrev Here : ℕ → ℕ → DataId → Option ℕ → Type 0
  Here q v id place = IsSettledHere K q v id place

  abbrev AreKeptRight : ℕ → ℕ → Table Kept → Type 0
  AreKeptRight q v kept = (c : ℕ) (k : Kept) (place : Option ℕ) → table.get kept c ≡ Some k → k.standing ≡ IsSettled place → IsSettledHere K q v (data_id c k.seq) place

  -- serials that were given, while more numbers are kept
  given_on : (q v n : ℕ) (kept more : Table Kept) → ((id : DataId) → IsKept id.client.0 id.seq kept → IsKept id.client.0 id.seq more) → IsGiven K q v n kept → IsGiven K q v n more
  given_on q v n kept more go h = record { id = h.id; placed = h.placed; numbered = h.numbered; known = go h.id h.known }

  -- a new standing is right where it is that of a settled attempt
  kept_put : (q v : ℕ) (kept : Table Kept) (client : ℕ) (new : Kept) → ((place : Option ℕ) → new.standing ≡ IsSettled place → Here q v (data_id client new.seq) place) → AreKeptRight q v kept → AreKeptRight q v (table.insert kept client new)
  kept_put q v kept client new right h c k place at is =
      elim (put_cases kept client new c k at) [
        | inl now ↦
            subst (λ (n : ℕ). Here q v (data_id n k.seq) place) (sym now.0)
            (subst (λ (x : Kept). Here q v (data_id client x.seq) place) now.1 (right place (ap (λ (x : Kept). x.standing) now.1 ∙ is)))
        | inr before ↦ h c k place before is
      ]

  kept_stood : (q v : ℕ) (kept : Table Kept) (client seq : ℕ) (standing : Standing) → ((place : Option ℕ) → standing ≡ IsSettled place → Here q v (data_id client seq) place) → AreKeptRight q v kept → AreKeptRight q v (with_standing kept client seq standing)
  kept_stood q v kept client seq standing right h = by_kept (table.get kept client)
    where
      by_kept : (o : Option Kept) → AreKeptRight q v (stood_by kept client seq standing o)
      by_kept None = h
      by_kept (Some k) =
          on_cond (AreKeptRight q v) (k.seq == seq) (table.insert kept client (record k { standing = standing })) kept
          (λ same. kept_put q v kept client (record k { standing = standing }) (λ place is. subst (λ (n : ℕ). Here q v (data_id client n) place) (sym (eqb-true k.seq seq same)) (right place is)) h) (λ _. h)

  -- no refusal is a success
  refusal_apart : {A : Type 0} (refusal : Refusal) (place : Option ℕ) → IsRefused refusal ≡ IsSettled place → A
  refusal_apart refusal place is = absurd (let both : IsRefused refusal ≡ IsSettled place = is in cc)

  pub right_denied : (q : ℕ) (p : SerialOrder) (id : DataId) (refusal : Refusal) → attempted p id.client id.seq ≡ IsNew → IsRight K q p → IsRight K q (denied p id.client id.seq refusal)
  right_denied q p id refusal fresh h =
      record {
        waits = h.waits;
        keeps = kept_put q p.held.version p.kept id.client.0 (kept_as id.seq (IsRefused refusal)) (λ place is. refusal_apart refusal place is) h.keeps;
        well = well_denied p id refusal fresh h.well;
        given = λ n least most. given_on q p.held.version n p.kept (denied p id.client id.seq refusal).kept (λ x. (knows_keeps x).denies p id refusal fresh) (h.given n least most);
      }

  pub right_refused : (q : ℕ) (p : SerialOrder) (refusal : Refusal) (o : Option Waiting) → IsRight K q p → IsRight K q (refused_by p refusal o)
  right_refused q p refusal None h = h
  right_refused q p refusal (Some w) h =
      record {
        waits = h.waits;
        keeps = kept_stood q p.held.version p.kept w.client.0 w.seq (IsRefused refusal) (λ place is. refusal_apart refusal place is) h.keeps;
        well = well_refused p refusal (Some w) h.well;
        given = λ n least most. given_on q p.held.version n p.kept (refused_by p refusal (Some w)).kept (λ x. (knows_keeps x).refuses p refusal (Some w)) (h.given n least most);
      }

  pub right_numbered : (q : ℕ) (p : SerialOrder) (id : DataId) (m : Mutation) → attempted p id.client id.seq ≡ IsNew → K (Numbered (handle_of q) (version_of p.held.version) (serial_of (p.serial + 1)) id m) → IsRight K q p
      → IsRight K q (numbered p id.client id.seq (place_of m))
  right_numbered q p id m fresh shown h =
      record {
        waits = λ n w at.
            elim (put_cases p.waiting (p.serial + 1) new n w at) [
              | inl now ↦
                  subst (λ (k : ℕ). IsNumberedAs K q p.held.version k (attempt_of w) w.place) (sym now.0)
                  (subst (λ (x : Waiting). IsNumberedAs K q p.held.version (p.serial + 1) (attempt_of x) x.place) now.1 (record { placed = m; place_is = refl; numbered = shown }))
              | inr before ↦ h.waits n w before
            ];
        keeps = kept_put q p.held.version p.kept id.client.0 (kept_as id.seq IsPending) (λ place is. absurd (let both : IsPending ≡ IsSettled place = is in cc)) h.keeps;
        well = well_numbered p id (place_of m) fresh h.well;
        given = λ n least most. elim (cases_lt n (p.serial + 1)) [
          | inl less ↦ given_on q p.held.version n p.kept (table.insert p.kept id.client.0 (kept_as id.seq IsPending)) (λ x. (knows_keeps x).numbers p id (place_of m) fresh) (h.given n least (omega (arith, less)))
          | inr last ↦ latest n (omega (arith, last, most))
        ];
      }
    where
      latest : (n : ℕ) → p.serial + 1 ≡ n → IsGiven K q p.held.version n (table.insert p.kept id.client.0 (kept_as id.seq IsPending))
      latest n same = subst (λ (k : ℕ). IsGiven K q p.held.version k (table.insert p.kept id.client.0 (kept_as id.seq IsPending))) same (record { id = id; placed = m; numbered = shown; known = own_kept id p IsPending })

      new : Waiting
      new = record { client = id.client; seq = id.seq; members = p.held.members; place = place_of m }

  same_place : (a b : Option ℕ) → IsSettled a ≡ IsSettled b → a ≡ b
  same_place a b e = cc

  was_waiting : (server : ℕ) (o : Option Waiting) (w : Waiting) → settled_by server o ≡ Some w → o ≡ Some w
  was_waiting server None w is = none_some w is
  was_waiting server (Some x) w is = by_last (is_last server x) is
    where
      by_last : (b : Bool) → cond b (Some x) None ≡ Some w → Some x ≡ Some w
      by_last true g = g
      by_last false g = none_some w g

  -- a success that an acknowledgement makes
  pub success_right : (q : ℕ) (p : SerialOrder) (server serial : ℕ) (w : Waiting) → settled_by server (table.get p.waiting serial) ≡ Some w → K (BecameSettled (handle_of q) (version_of p.held.version) (serial_of serial)) → IsRight K q p
      → Here q p.held.version (attempt_of w) w.place
  success_right q p server serial w is shown h =
      (record { handle = q; version = p.held.version; serial = serial; numbered = h.waits serial w (was_waiting server (table.get p.waiting serial) w is); settled = shown }, refl, refl)

  pub right_acknowledged : (q : ℕ) (p : SerialOrder) (server serial : ℕ)
      → ((w : Waiting) → settled_by server (table.get p.waiting serial) ≡ Some w → K (BecameSettled (handle_of q) (version_of p.held.version) (serial_of serial))) → IsRight K q p → IsRight K q (acknowledged p server serial)
  right_acknowledged q p server serial shown h =
      record {
        waits = by_waiting (table.get p.waiting serial) refl;
        keeps = by_settled (settled_by server (table.get p.waiting serial)) refl;
        well = well_acknowledged p server serial h.well;
        given = λ n least most. given_on q p.held.version n p.kept (acknowledged p server serial).kept (λ x. (knows_keeps x).acknowledges p server serial) (h.given n least most);
      }
    where
      by_waiting : (o : Option Waiting) → table.get p.waiting serial ≡ o → (n : ℕ) (w : Waiting) → table.get (waiting_by p.waiting serial server o) n ≡ Some w → IsNumberedAs K q p.held.version n (attempt_of w) w.place
      by_waiting None is n w at = h.waits n w at
      by_waiting (Some x) is n w at =
          on_cond (λ (t : Table Waiting). table.get t n ≡ Some w → IsNumberedAs K q p.held.version n (attempt_of w) w.place) (is_last server x) (table.remove p.waiting serial) (table.insert p.waiting serial (less_member server x))
          (λ _ g. h.waits n w (kept_cases p.waiting serial n w g))
          (λ _ g. elim (put_cases p.waiting serial (less_member server x) n w g) [
            | inl now ↦
                subst (λ (k : ℕ). IsNumberedAs K q p.held.version k (attempt_of w) w.place) (sym now.0)
                (subst (λ (y : Waiting). IsNumberedAs K q p.held.version serial (attempt_of y) y.place) now.1 (h.waits serial x is))
            | inr before ↦ h.waits n w before
          ])
          at

      by_settled : (o : Option Waiting) → settled_by server (table.get p.waiting serial) ≡ o → AreKeptRight q p.held.version (settled_kept p.kept o)
      by_settled None is = h.keeps
      by_settled (Some w) is =
          kept_stood q p.held.version p.kept w.client.0 w.seq (IsSettled w.place)
          (λ place same. subst (λ (x : Option ℕ). Here q p.held.version (attempt_of w) x) (same_place w.place place same) (success_right q p server serial w is (shown w is) h)) h.keeps

  same_version : (skew : ℕ) (l : LeaseHeld) (until now : ℕ) → (extended skew l until now).version ≡ l.version
  same_version skew l until now = on_cond (λ (x : LeaseHeld). x.version ≡ l.version) (counts_at skew l now && nat_lt l.until until) (record l { until = until }) l (λ _. refl) (λ _. refl)

  pub right_extended : (q : ℕ) (p : SerialOrder) (skew until now : ℕ) → IsRight K q p → IsRight K q (record p { held = extended skew p.held until now })
  right_extended q p skew until now h =
      record {
        waits = λ n w at. subst (λ (v : ℕ). IsNumberedAs K q v n (attempt_of w) w.place) (sym (same_version skew p.held until now)) (h.waits n w at);
        keeps = subst (λ (v : ℕ). AreKeptRight q v p.kept) (sym (same_version skew p.held until now)) h.keeps;
        well = well_extended p skew until now h.well;
        given = λ n least most. subst (λ (v : ℕ). IsGiven K q v n p.kept) (sym (same_version skew p.held until now)) (h.given n least most);
      }

  pub right_reported : (q : ℕ) (p : SerialOrder) → IsRight K q p → IsRight K q (asks_no_more p)
  right_reported q p h = record { waits = h.waits; keeps = h.keeps; well = well_reported p h.well; given = h.given }

  pub right_new : (q chunk : ℕ) (held : LeaseHeld) → IsRight K q (new_order chunk held)
  right_new q chunk held =
      record {
        waits = λ n w at. none_some w (sym (table.get-empty nat_cmp n) ∙ at);
        keeps = λ c k place at is. none_some k (sym (table.get-empty nat_cmp c) ∙ at);
        well = well_new chunk held;
        given = λ n least most. absurd (omega (arith, least, most));
      }
