-- Steps one after another.
use Rattle.std.proofs.Common.{◌≡◌, ◌≤◌, ◌+◌, ℕ, zero, suc, Bool, List, [], ◌∷◌, ◌++◌, Option, Some, None, Result, Ok, Err, refl, sym, ap, ◌∙◌, subst, arith}
use Rattle.std.specs.Prelude.{IsTrue, OnOk}
use Rattle.std.specs.Io.KnownBytes.{Appends}
use Rattle.std.proofs.lemmas.List.{append-nil, append_assoc}
use Rattle.std.proofs.lemmas.List.Elements.{All-cons, All-nil, All-append, All-weaker}
use Rattle.std.proofs.lemmas.Grind.{flat_map-append}
use Rattle.gfs_types.specs.declared.answer.Answer.{Answer}
use Rattle.gfs_types.specs.declared.ids.Node.{Node}
use Rattle.messages.specs.declared.event.Event.{Event}
use Rattle.messages.specs.declared.event.Event.TheVariants as event
use Rattle.cell_simulator.specs.Cells.{Meaning}
use Rattle.cell_simulator.specs.Steps.{Step, Simulated, node_of, moment_of, is_delivery, is_of_round, Lead, Rise, line_at, line_of_step, lines_of, Only, Just, First, Goes, DropsTimes, Stays, later, after_rounds}

pub on_ok : {X E : Type 0} (r : Result X E) (P Q : Type 0) → OnOk r P → (P → Q) → OnOk r Q
on_ok (Ok x) P Q p f = f p
on_ok (Err e) P Q p f = tt

pub appends_none : (known : Option (List ℕ)) → Appends known known []
appends_none None = tt
appends_none (Some xs) = sym (append-nil xs)

pub appends_twice : (a b c : Option (List ℕ)) (xs ys : List ℕ) → Appends a b xs → Appends b c ys → Appends a c (xs ++ ys)
appends_twice None b c xs ys p q = tt
appends_twice (Some x) None c xs ys p q = absurd p
appends_twice (Some x) (Some y) None xs ys p q = absurd q
appends_twice (Some x) (Some y) (Some z) xs ys p q = q ∙ (ap (λ (l : List ℕ). l ++ ys) p ∙ append_assoc x xs ys)

-- no step, and then none
stays_on : {C : Type 0} (m : Meaning C) (times : ℕ) (a b c : C) → DropsTimes m times a b → Stays m b c → Stays m a c
stays_on m zero a b c p q = subst (λ w. Stays m w c) p q
stays_on m (suc times) a b c p q =
    let later : Stays m p.0 c = stays_on m times p.0 b c p.2 q in
    record { times = suc later.times; drops = (p.0, p.1, later.drops) }

pub stays : {C : Type 0} (m : Meaning C) (a : C) → Stays m a a
stays m a = record { times = zero; drops = refl }

leads_from : {C : Type 0} (m : Meaning C) (a b c : C) (ys : List Step) → Stays m a b → Lead m b ys c → Lead m a ys c
leads_from m a b c [] p q = stays_on m p.times a b c p.drops q
leads_from m a b c (s ∷ ys) p q = (q.0, stays_on m p.times a b q.0 p.drops q.1, q.2, q.3, q.4, q.5)

leads_on : {C : Type 0} (m : Meaning C) (a b c : C) (xs ys : List Step) → Lead m a xs b → Lead m b ys c → Lead m a (xs ++ ys) c
leads_on m a b c [] ys p q = leads_from m a b c ys p q
leads_on m a b c (s ∷ xs) ys p q = (p.0, p.1, p.2, p.3, p.4, leads_on m p.2 b c xs ys p.5 q)

-- a later clock gives no event an earlier moment
moment_grows : (a b : ℕ) (e : Event) → a ≤ b → moment_of a e ≤ moment_of b e
moment_grows a b (event.Call client c now) le = omega arith
moment_grows a b (event.Deliver number now) le = omega arith
moment_grows a b (event.Tick n now) le = omega arith
moment_grows a b (event.Restart n now) le = omega arith
moment_grows a b (event.Rot server handle place byte) le = le
moment_grows a b (event.Fuse n count torn) le = le

moment_after : (a b : ℕ) (e : Event) → a ≤ b → b ≤ moment_of b e → a ≤ moment_of a e
moment_after a b (event.Call client c now) le h = omega (arith, le, h)
moment_after a b (event.Deliver number now) le h = omega (arith, le, h)
moment_after a b (event.Tick n now) le h = omega (arith, le, h)
moment_after a b (event.Restart n now) le h = omega (arith, le, h)
moment_after a b (event.Rot server handle place byte) le h = omega arith
moment_after a b (event.Fuse n count torn) le h = omega arith

pub rise_from : (a b c : ℕ) (xs : List Step) → a ≤ b → Rise b xs c → Rise a xs c
rise_from a b c [] le q = omega (arith, le, q)
rise_from a b c (s ∷ xs) le q = (moment_after a b s.event le q.0, rise_from (moment_of a s.event) (moment_of b s.event) c xs (moment_grows a b s.event le) q.1)

rise_on : (a b c : ℕ) (xs ys : List Step) → Rise a xs b → Rise b ys c → Rise a (xs ++ ys) c
rise_on a b c [] ys p q = rise_from a b c ys p q
rise_on a b c (s ∷ xs) ys p q = (p.0, rise_on (moment_of a s.event) b c xs ys p.1 q)

-- one event, and what is printed of its answer
pub one_step : {C : Type 0} (m : Meaning C) (old new : C) (clock : ℕ) (n : Node) (e : Event) (answer : Option Answer) (before after : Option (List ℕ)) → node_of m old e ≡ Some n → moment_of clock e ≡ clock → m.steps old e answer new
    → Appends before after (line_at n answer) → Goes m (record { cell = old; clock = clock }) (record { cell = new; clock = clock }) (Just e) before after
one_step m old new clock n e answer before after at now s printed =
    let step : Step = record { node = n; event = e; answer = answer } in
    record {
      steps = step ∷ [];
      leads = (old, stays m old, new, at, s, stays m new);
      rises = (omega (arith, now), omega (arith, now));
      are = (step, refl, refl);
      printed = subst (λ l. Appends before after l) (sym (append-nil (line_at n answer))) printed;
    }

-- steps after steps
goes_then : {C : Type 0} (m : Meaning C) (a b c : Simulated C) (P Q R : List Step → Type 0) (x y z : Option (List ℕ)) → ((xs ys : List Step) → P xs → Q ys → R (xs ++ ys)) → Goes m a b P x y → Goes m b c Q y z → Goes m a c R x z
goes_then m a b c P Q R x y z both p q = record {
  steps = p.steps ++ q.steps;
  leads = leads_on m a.cell b.cell c.cell p.steps q.steps p.leads q.leads;
  rises = rise_on a.clock b.clock c.clock p.steps q.steps p.rises q.rises;
  are = both p.steps q.steps p.are q.are;
  printed = subst (λ l. Appends x z l) (sym (flat_map-append line_of_step p.steps q.steps)) (appends_twice x y z (lines_of p.steps) (lines_of q.steps) p.printed q.printed);
}

pub goes_as : {C : Type 0} (m : Meaning C) (a b : Simulated C) (P Q : List Step → Type 0) (x y : Option (List ℕ)) → ((xs : List Step) → P xs → Q xs) → Goes m a b P x y → Goes m a b Q x y
goes_as m a b P Q x y so p = record { steps = p.steps; leads = p.leads; rises = p.rises; are = so p.steps p.are; printed = p.printed }

-- the clock went on before the first step
pub goes_later : {C : Type 0} (m : Meaning C) (cell : C) (clock later : ℕ) (b : Simulated C) (P : List Step → Type 0) (x y : Option (List ℕ)) → clock ≤ later → Goes m (record { cell = cell; clock = later }) b P x y
    → Goes m (record { cell = cell; clock = clock }) b P x y
goes_later m cell clock later b P x y le p = record { steps = p.steps; leads = p.leads; rises = rise_from clock later b.clock p.steps le p.rises; are = p.are; printed = p.printed }

none_only : (test : Event → Bool) → Only test []
none_only test = All-nil (λ s. IsTrue (test s.event))

only_on : (test : Event → Bool) (xs ys : List Step) → Only test xs → Only test ys → Only test (xs ++ ys)
only_on test xs ys p q = All-append (λ s. IsTrue (test s.event)) xs ys p q

-- no step
pub goes_nothing : {C : Type 0} (m : Meaning C) (a : Simulated C) (test : Event → Bool) (x : Option (List ℕ)) → Goes m a a (Only test) x x
goes_nothing m a test x = record { steps = []; leads = stays m a.cell; rises = omega arith; are = none_only test; printed = appends_none x }

-- all messages were dropped
pub goes_dropping : {C : Type 0} (m : Meaning C) (old new : C) (clock : ℕ) (test : Event → Bool) → m.drops old new → (x : Option (List ℕ)) → Goes m (record { cell = old; clock = clock }) (record { cell = new; clock = clock }) (Only test) x x
goes_dropping m old new clock test drops x = record {
  steps = [];
  leads = record { times = suc zero; drops = (new, drops, refl) };
  rises = omega arith;
  are = none_only test;
  printed = appends_none x;
}

pub goes_on : {C : Type 0} (m : Meaning C) (a b c : Simulated C) (test : Event → Bool) (x y z : Option (List ℕ)) → Goes m a b (Only test) x y → Goes m b c (Only test) y z → Goes m a c (Only test) x z
goes_on m a b c test x y z p q = goes_then m a b c (Only test) (Only test) (Only test) x y z (only_on test) p q

-- an event that passes the test
just_only : (test : Event → Bool) (e : Event) → IsTrue (test e) → (xs : List Step) → Just e xs → Only test xs
just_only test e passes xs j = subst (λ l. Only test l) (sym j.2) (All-cons (λ s. IsTrue (test s.event)) j.0 [] (subst (λ (f : Event). IsTrue (test f)) (sym j.1) passes) (none_only test))

pub goes_once : {C : Type 0} (m : Meaning C) (a b : Simulated C) (test : Event → Bool) (e : Event) (x y : Option (List ℕ)) → IsTrue (test e) → Goes m a b (Just e) x y → Goes m a b (Only test) x y
goes_once m a b test e x y passes p = goes_as m a b (Just e) (Only test) x y (just_only test e passes) p

just_first : (e : Event) (test : Event → Bool) (xs ys : List Step) → Just e xs → Only test ys → First e test (xs ++ ys)
just_first e test xs ys j o = (j.0, ys, j.1, ap (λ (l : List Step). l ++ ys) j.2, o)

-- an event, and then others
pub goes_first : {C : Type 0} (m : Meaning C) (a b c : Simulated C) (e : Event) (test : Event → Bool) (x y z : Option (List ℕ)) → Goes m a b (Just e) x y → Goes m b c (Only test) y z → Goes m a c (First e test) x z
goes_first m a b c e test x y z p q = goes_then m a b c (Just e) (Only test) (First e test) x y z (just_first e test) p q

first_on : (e : Event) (test : Event → Bool) (xs ys : List Step) → First e test xs → Only test ys → First e test (xs ++ ys)
first_on e test xs ys f o = (f.0, f.1 ++ ys, f.2, ap (λ (l : List Step). l ++ ys) f.3, only_on test f.1 ys f.4 o)

pub goes_after : {C : Type 0} (m : Meaning C) (a b c : Simulated C) (e : Event) (test : Event → Bool) (x y z : Option (List ℕ)) → Goes m a b (First e test) x y → Goes m b c (Only test) y z → Goes m a c (First e test) x z
goes_after m a b c e test x y z p q = goes_then m a b c (First e test) (Only test) (First e test) x y z (first_on e test) p q

-- deliveries are of a round
delivery_of_round : (e : Event) → IsTrue (is_delivery e) → IsTrue (is_of_round e)
delivery_of_round (event.Call client c now) h = h
delivery_of_round (event.Deliver number now) h = h
delivery_of_round (event.Tick n now) h = absurd (cc)
delivery_of_round (event.Restart n now) h = h
delivery_of_round (event.Rot server handle place byte) h = h
delivery_of_round (event.Fuse n count torn) h = h

deliveries_of_round : (xs : List Step) → Only is_delivery xs → Only is_of_round xs
deliveries_of_round xs h = All-weaker (λ s. IsTrue (is_delivery s.event)) (λ s. IsTrue (is_of_round s.event)) (λ s. delivery_of_round s.event) xs h

pub goes_in_round : {C : Type 0} (m : Meaning C) (a b : Simulated C) (x y : Option (List ℕ)) → Goes m a b (Only is_delivery) x y → Goes m a b (Only is_of_round) x y
goes_in_round m a b x y p = goes_as m a b (Only is_delivery) (Only is_of_round) x y deliveries_of_round p

first_of_round : (e : Event) (xs : List Step) → First e is_delivery xs → First e is_of_round xs
first_of_round e xs f = (f.0, f.1, f.2, f.3, deliveries_of_round f.1 f.4)

pub goes_first_of_round : {C : Type 0} (m : Meaning C) (a b : Simulated C) (e : Event) (x y : Option (List ℕ)) → Goes m a b (First e is_delivery) x y → Goes m a b (First e is_of_round) x y
goes_first_of_round m a b e x y p = goes_as m a b (First e is_delivery) (First e is_of_round) x y (first_of_round e) p

-- the clock before the first round of ticks
pub no_rounds : (clock new : ℕ) → new ≡ clock → clock ≤ 18446744073709551615 → new ≡ after_rounds clock 0
no_rounds clock new is le = omega (arith, is)

-- the clock after one round more
pub one_round : (first clock new rounds : ℕ) → clock ≡ after_rounds first rounds → new ≡ later clock 100 → new ≡ after_rounds first (rounds + 1)
one_round first clock new rounds is next = omega (arith, is, next)

-- a part of a round, and the deliveries that follow
pub goes_delivering : {C : Type 0} (m : Meaning C) (a b c : Simulated C) (x y z : Option (List ℕ)) → Goes m a b (Only is_of_round) x y → Goes m b c (Only is_delivery) y z → Goes m a c (Only is_of_round) x z
goes_delivering m a b c x y z p q = goes_on m a b c is_of_round x y z p (goes_in_round m b c y z q)
