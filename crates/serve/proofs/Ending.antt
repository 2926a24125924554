-- What was printed in the end.
use Rattle.std.proofs.Common.{◌≡◌, ◌<◌, ℕ, zero, suc, List, [], ◌∷◌, ◌++◌, length, map, Option, Some, None, refl, sym, ap, subst, ◌∙◌, arith}
use Rattle.std.specs.Prelude.{IfSome, slice_get}
use Rattle.std.proofs.lemmas.List.{append-nil, length-map}
use Rattle.std.proofs.lemmas.List.Elements.{All-nil, All-cons}
use mathlib.Core.List.{IsPrefix}
use Rattle.gfs_types.specs.declared.answer.Answer.{Answer}
use Rattle.gfs_types.specs.declared.call.Call.{Call}
use Rattle.gfs_types.specs.declared.ids.Node.TheVariants.{Client}
use Rattle.protocol_journal.specs.Journal.{Entry}
use Rattle.cell_journal.specs.Identity.{Closed}
use Rattle.cell_journal.specs.WholeHistories.{whole_of}
use Rattle.cell_run.specs.Cells.{IsCellOf}
use Rattle.script.specs.declared.options.Options.{Options}
use Rattle.cell_looks.specs.ClientAnswers.{HasAnswers, Stretch, IsStretch, heard_in}
use Rattle.serve.specs.Served.{answers_to, calls_served}
use Rattle.serve.specs.Messages.{Service, IsPrinted, AreCounts, calls_for}
use Rattle.serve.specs.Outcomes.{AreServedAnswers, PrintsAnswers, Serves, ServesFirst}
use Rattle.serve.specs.Printing.{Stand, AreInOrder, AreNew, AllBegin, AllPrinted, PrintsOn, AreComparable, AreAllPrinted}
use Rattle.serve.proofs.Longest.{IsLongest, longest_of}
use Rattle.serve.proofs.Places.{there}
use Rattle.serve.proofs.Printed.{same_length, printed_count}

-- something of each of a list, as a list, by that of its first and those of the rest
collected : {X : Type 0} (Holds : ℕ → Stand → X → Type 0) (p : Stand) (ps : List Stand) → (x : X) × Holds zero p x
    → (xs : List X) × (length xs ≡ length ps) × ((k : ℕ) (q : Stand) (x : X) → slice_get ps k ≡ Some q → slice_get xs k ≡ Some x → Holds (suc k) q x)
    → (xs : List X) × (length xs ≡ length (p ∷ ps)) × ((k : ℕ) (q : Stand) (x : X) → slice_get (p ∷ ps) k ≡ Some q → slice_get xs k ≡ Some x → Holds k q x)
collected {X} Holds p ps here rest = (here.0 ∷ rest.0, ap (λ (n : ℕ). suc n) rest.1, each)
  where
    each : (k : ℕ) (q : Stand) (x : X) → slice_get (p ∷ ps) k ≡ Some q → slice_get (here.0 ∷ rest.0) k ≡ Some x → Holds k q x
    each zero q x at to =
        let same_one : p ≡ q = (let both : Some p ≡ Some q = at in cc) in
        let same : here.0 ≡ x = (let both : Some here.0 ≡ Some x = to in cc) in
        subst (λ (r : Stand). Holds zero r x) same_one (subst (λ (y : X). Holds zero p y) same here.1)
    each (suc k) q x at to = rest.2 k q x at to

collect : {X : Type 0} (Holds : ℕ → Stand → X → Type 0) (stands : List Stand) → ((k : ℕ) (p : Stand) → slice_get stands k ≡ Some p → (x : X) × Holds k p x)
    → (xs : List X) × (length xs ≡ length stands) × ((k : ℕ) (p : Stand) (x : X) → slice_get stands k ≡ Some p → slice_get xs k ≡ Some x → Holds k p x)
collect {X} Holds [] all = ([], refl, λ k p x at to. absurd (let none : None ≡ Some p = at in cc))
collect {X} Holds (p ∷ ps) all = collected Holds p ps (all zero p refl) (collect (λ k q x. Holds (suc k) q x) ps (λ k q at. all (suc k) q at))

mapped_at : {X Y : Type 0} (f : X → Y) (xs : List X) (k : ℕ) (y : Y) → slice_get (map f xs) k ≡ Some y → (x : X) × (slice_get xs k ≡ Some x) × (f x ≡ y)
mapped_at f [] k y h = absurd (let none : None ≡ Some y = h in cc)
mapped_at f (x ∷ xs) zero y h = (x, refl, (let both : Some (f x) ≡ Some y = h in cc))
mapped_at f (x ∷ xs) (suc k) y h = mapped_at f xs k y h

-- the calls of a client whose answers were printed
record IsAskedAt (s : Service) (k : ℕ) (p : Stand) (calls : List Call) : Type 0 where
  pub printed : IsPrinted s (suc k) p.count p.is_lost p.seen p.answers
  pub are : calls ≡ printed.answered.calls ++ printed.refused

abbrev stretch_at : (s : Service) (k : ℕ) (p : Stand) (calls : List Call) → IsAskedAt s k p calls → Stretch
stretch_at s k p calls a = record { heard = a.printed.answered.calls; answers = a.printed.replies; refused = a.printed.refused; refusals = a.printed.refusals }

is_stretch : (s : Service) (k : ℕ) (p : Stand) (calls : List Call) (a : IsAskedAt s k p calls) → IsStretch (stretch_at s k p calls a)
is_stretch s k p calls a = record { each = sym a.printed.answered.each; all = sym a.printed.each; of_the_cell = a.printed.of_the_cell }

module _ (options : Options) (s : Service) (same_clients : s.clients ≡ options.clients) (cell_is : IsCellOf options.config options.servers s.cell) (some : 0 < options.clients) (stands : List Stand)
    (many : length stands ≡ options.clients)
    (places : AreInOrder stands) (all : AllPrinted s stands) (meet : AreComparable stands) where
  placed : (k : ℕ) (p : Stand) → slice_get stands k ≡ Some p → IsPrinted s (suc k) p.count p.is_lost p.seen p.answers
  placed k p at = subst (λ (n : ℕ). IsPrinted s n p.count p.is_lost p.seen p.answers) (places k p at) (all k p at)

  asked : (xs : List (List Call)) × (length xs ≡ length stands) × ((k : ℕ) (p : Stand) (calls : List Call) → slice_get stands k ≡ Some p → slice_get xs k ≡ Some calls → IsAskedAt s k p calls)
  asked = collect (IsAskedAt s) stands (λ k p at. ((placed k p at).answered.calls ++ (placed k p at).refused, record { printed = placed k p at; are = refl }))

  longest : (entries : List Entry) × IsLongest s stands entries
  longest = longest_of s stands (omega (arith, some, many)) (λ k p at. (placed k p at).answered.of) meet

  has_answers : (k : ℕ) (p : Stand) (calls : List Call) (replies : List Answer) → slice_get stands k ≡ Some p → IsAskedAt s k p calls → p.answers ≡ replies → HasAnswers longest.0 (suc k) 0 calls replies
  has_answers k p calls replies at a same = record {
    seen = p.seen.items;
    begins = longest.1.all k p at;
    earlier = [];
    now = Client (record { 0 = suc k });
    first = refl;
    few = omega arith;
    answered = record {
      stretches = stretch_at s k p calls a ∷ [];
      count = omega arith;
      are = All-cons IsStretch (stretch_at s k p calls a) [] (is_stretch s k p calls a) (All-nil IsStretch);
      calls_are = a.are ∙ sym (append-nil (a.printed.answered.calls ++ a.printed.refused));
      replies_are = sym same ∙ a.printed.are ∙ sym (append-nil (a.printed.replies ++ a.printed.refusals));
      shows = a.printed.answered.shows ∙ sym (append-nil (heard_in (stretch_at s k p calls a)));
    };
  }

  abbrev are_answers : AreServedAnswers options asked.0 (map (λ (p : Stand). p.answers) stands)
  are_answers = record {
    cell = s.cell;
    cell_is = cell_is;
    entries = longest.0;
    lawful = longest.1.lawful;
    clocks = longest.1.clocks;
    explained = longest.1.explained;
    clients = (asked.1 ∙ many, length-map stands (λ (p : Stand). p.answers) ∙ many);
    each = λ k calls replies here to.
        let found = mapped_at (λ (p : Stand). p.answers) stands k replies to in
        has_answers k found.0 calls replies found.1 (asked.2 k found.0 calls found.1 here) found.2;
  }

  module _ (news : List Stand) (before after : Option (List ℕ)) (order : AreInOrder news) (fresh : AreNew news) (prints : PrintsOn news stands before after) where
    abbrev prints_answers : PrintsAnswers options asked.0 before after
    prints_answers = record {
      printed = prints.printed;
      text = prints.text;
      answers = map (λ (p : Stand). p.answers) stands;
      answered = are_answers;
      each = λ k replies to.
          let found = mapped_at (λ (p : Stand). p.answers) stands k replies to in
          let old = there news stands k found.0 (sym prints.count) found.1 in
          let on = prints.each k old.0 found.0 old.1 found.1 in
          ap (λ (c : ℕ). answers_to c prints.printed) (sym (order k old.0 old.1)) ∙ (ap (λ (l : List Answer). l ++ answers_to old.0.client prints.printed) (sym (fresh k old.0 old.1)) ∙ (sym on.answers ∙ found.2));
    }

    -- each client's calls are the first ones that the lines have for it
    first_calls : (input : Option (List ℕ)) → s.input ≡ input → IfSome input (λ i. (k : ℕ) (calls : List Call) → slice_get asked.0 k ≡ Some calls → IsPrefix calls (calls_for options.clients (suc k) i))
    first_calls None is = tt
    first_calls (Some i) is = λ k calls at.
        let p = there stands asked.0 k calls (sym asked.1) at in
        let a = asked.2 k p.0 calls p.1 at in
        let first : IsPrefix (a.printed.answered.calls ++ a.printed.refused) (calls_for s.clients (suc k) i) =
        subst (λ (o : Option (List ℕ)). IfSome o (λ x. IsPrefix (a.printed.answered.calls ++ a.printed.refused) (calls_for s.clients (suc k) x))) is a.printed.asked in
        subst (λ (n : ℕ). IsPrefix calls (calls_for n (suc k) i)) same_clients (subst (λ (l : List Call). IsPrefix l (calls_for s.clients (suc k) i)) (sym a.are) first)

    pub serves_first : (input : Option (List ℕ)) → s.input ≡ input → ServesFirst options input before after
    serves_first input is = record { asked = asked.0; first = first_calls input is; prints = prints_answers }

    -- and all of them, where as many answers were printed
    all_calls : (counts : List ℕ) (input : Option (List ℕ)) → s.input ≡ input → AreAllPrinted counts stands → IfSome input (λ i. AreCounts counts (calls_served s.clients i))
        → IfSome input (λ i. (k : ℕ) (calls : List Call) → slice_get asked.0 k ≡ Some calls → calls ≡ calls_for options.clients (suc k) i)
    all_calls counts None is printed counted = tt
    all_calls counts (Some i) is printed counted = λ k calls at.
        let p = there stands asked.0 k calls (sym asked.1) at in
        let a = asked.2 k p.0 calls p.1 at in
        let count = there counts stands k p.0 printed.clients p.1 in
        let first : IsPrefix calls (calls_for options.clients (suc k) i) = first_calls (Some i) is k calls at in
        let number : length calls ≡ p.0.count = ap length a.are ∙ printed_count s (suc k) p.0.count p.0.is_lost p.0.seen p.0.answers a.printed in
        let expected : count.0 ≡ length (calls_for options.clients (suc k) i) =
        subst (λ (n : ℕ). count.0 ≡ length (calls_for n (suc k) i)) same_clients (counted k count.0 count.1) in
        same_length calls (calls_for options.clients (suc k) i) (number ∙ printed.each k count.0 p.0 count.1 p.1 ∙ expected) first

    abbrev serves_all : (counts : List ℕ) (input : Option (List ℕ)) → s.input ≡ input → AreAllPrinted counts stands
        → IfSome input (λ i. AreCounts counts (calls_served s.clients i)) → Serves options input before after
    serves_all counts input is printed counted = record { asked = asked.0; all = all_calls counts input is printed counted; prints = prints_answers }

    -- and what each client saw begins this history of the cell
    pub serves_in : (counts : List ℕ) (input : Option (List ℕ)) → s.input ≡ input → AreAllPrinted counts stands
        → IfSome input (λ i. AreCounts counts (calls_served s.clients i)) → (journal : Closed) → s.cell ≡ journal.cell → AllBegin (whole_of journal) stands
        → (serves : Serves options input before after) × (serves.prints.answered.cell ≡ journal.cell) × IsPrefix serves.prints.answered.entries (whole_of journal)
    serves_in counts input is printed counted journal same begin =
        let one = longest.1.one_is in
        (serves_all counts input is printed counted, same, subst (λ (l : List Entry). IsPrefix l (whole_of journal)) one.3 (begin one.0 one.1 one.2))
