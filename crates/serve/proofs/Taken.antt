-- The lines that are taken, one after another, and their calls.
use Rattle.std.proofs.Common.{◌≡◌, ℕ, zero, suc, ◌+◌, true, false, List, [], ◌∷◌, ◌++◌, ⊎_elim, length, Option, Some, None, inl, inr, refl, sym, ap, subst, ◌∙◌, append_assoc, length-append, arith}
use Rattle.std.specs.Prelude.{IfSome, slice_get, replicate}
use Rattle.std.proofs.lemmas.List.{append-nil, length-replicate}
use Rattle.gfs_types.specs.declared.call.Call.{Call}
use Rattle.script.specs.declared.live_lines.LiveLine.{LiveLine}
use Rattle.script.specs.Reading.{lines_in, AreRead, Leaves}
use Rattle.script.proofs.LinesRead.{all_left, leaves_all}
use Rattle.serve_lines.specs.Input.{ReadsWholeLine}
use Rattle.serve_lines.specs.Lines.{served_line_of}
use Rattle.serve_lines.proofs.WholeLines.{kept_asks}
use Rattle.serve_lines.specs.declared.lines.ServedLine.{ServedLine}
use Rattle.cell_looks.specs.ClientAnswers.{calls_of}
use Rattle.cell_looks.proofs.Calls.{calls_append}
use Rattle.serve.specs.Served.{call_in, calls_in, calls_served}
use Rattle.serve.specs.Messages.{Service, AreNext, AreTaken, AreCounts, HaveAsked, calls_for}

calls_in_append : (clients : ℕ) (xs ys : List (List ℕ)) → calls_in clients (xs ++ ys) ≡ calls_in clients xs ++ calls_in clients ys
calls_in_append clients [] ys = refl
calls_in_append clients (x ∷ xs) ys =
    ap (λ (l : List LiveLine). call_in clients (served_line_of x) ++ l) (calls_in_append clients xs ys) ∙ sym (append_assoc (call_in clients (served_line_of x)) (calls_in clients xs) (calls_in clients ys))

-- a client's calls in lines before one, in it, and behind it
calls_around : (clients k : ℕ) (texts later : List (List ℕ)) (text : List ℕ)
    → calls_of k (calls_in clients (texts ++ text ∷ later)) ≡ calls_of k (calls_in clients texts) ++ (calls_of k (call_in clients (served_line_of text)) ++ calls_of k (calls_in clients later))
calls_around clients k texts later text =
    ap (calls_of k) (calls_in_append clients texts (text ∷ later))
    ∙ calls_append k (calls_in clients texts) (call_in clients (served_line_of text) ++ calls_in clients later)
    ∙ ap (λ (l : List Call). calls_of k (calls_in clients texts) ++ l) (calls_append k (call_in clients (served_line_of text)) (calls_in clients later))

-- the first of the elements behind a list
first_behind : {X : Type 0} (xs ys zs : List X) (x : X) → slice_get ys 0 ≡ Some x → slice_get (xs ++ (ys ++ zs)) (length xs) ≡ Some x
first_behind [] [] zs x at = absurd (let none : None ≡ Some x = at in cc)
first_behind [] (y ∷ ys) zs x at = at
first_behind (w ∷ xs) ys zs x at = first_behind xs ys zs x at

-- the lines that were read, the next one, and those behind it
next_line : (xs ys zs : List ℕ) (texts : List (List ℕ)) (text : List ℕ) → AreRead xs texts ys → (ys ≡ [] → ⊥) → AreRead ys (text ∷ []) zs → (later : List (List ℕ)) × (lines_in xs ≡ texts ++ text ∷ later)
next_line xs ys zs texts text h some next = ⊎_elim
    (λ at. let left = all_left ys zs (text ∷ []) next in (left.0, at ∙ ap (λ (l : List (List ℕ)). texts ++ l) left.1))
    (λ all. absurd (some all.1))
    h

-- the calls of the next line come next
pub next_asked : (s : Service) (from to last : Option (List ℕ)) (counts line : List ℕ) → s.input ≡ from → HaveAsked s from to counts → ReadsWholeLine to last line true → AreNext s counts (call_in s.clients (served_line_of line))
next_asked s from to last counts line is h reads = record {
  clients = h.clients;
  each = λ k count call at first. record { is = subst (λ (o : Option (List ℕ)). IfSome o (λ input. slice_get (calls_for s.clients (suc k) input) count ≡ Some call)) (sym is) (go from to last k count call at first h.leaves reads) };
}
  where
    go : (from to last : Option (List ℕ)) (k count : ℕ) (call : Call) → slice_get counts k ≡ Some count → slice_get (calls_of (suc k) (call_in s.clients (served_line_of line))) 0 ≡ Some call → Leaves from to h.texts
        → ReadsWholeLine to last line true → IfSome from (λ input. slice_get (calls_for s.clients (suc k) input) count ≡ Some call)
    go None to last k count call at first leaves reads = tt
    go (Some xs) None last k count call at first leaves reads = absurd leaves
    go (Some xs) (Some ys) None k count call at first leaves reads = absurd reads
    go (Some xs) (Some ys) (Some zs) k count call at first leaves reads =
        let text = reads.1 in
        let left = next_line xs ys zs h.texts text leaves reads.0 reads.3 in
        let same : served_line_of line ≡ served_line_of text = ap served_line_of reads.2 ∙ kept_asks text in
        let of_text : slice_get (calls_of (suc k) (call_in s.clients (served_line_of text))) 0 ≡ Some call = subst (λ (o : Option ServedLine). slice_get (calls_of (suc k) (call_in s.clients o)) 0 ≡ Some call) same first in
        let all : calls_for s.clients (suc k) xs ≡ calls_of (suc k) (calls_in s.clients (h.texts ++ text ∷ left.0)) = ap (λ (l : List (List ℕ)). calls_of (suc k) (calls_in s.clients l)) left.1 in
        ap (slice_get (calls_for s.clients (suc k) xs)) (h.are k count at)
        ∙ ap (λ (l : List Call). slice_get l (length (calls_of (suc k) (calls_in s.clients h.texts)))) (all ∙ calls_around s.clients (suc k) h.texts left.0 text)
        ∙ first_behind (calls_of (suc k) (calls_in s.clients h.texts)) (calls_of (suc k) (call_in s.clients (served_line_of text))) (calls_of (suc k) (calls_in s.clients left.0)) call of_text

-- one more line was read
read_on : (xs ys zs : List ℕ) (texts : List (List ℕ)) (text : List ℕ) → AreRead xs texts ys → (ys ≡ [] → ⊥) → AreRead ys (text ∷ []) zs → AreRead xs (texts ++ text ∷ []) zs
read_on xs ys zs texts text h some next = ⊎_elim
    (λ at. ⊎_elim
    (λ more. inl (at ∙ ap (λ (l : List (List ℕ)). texts ++ l) more ∙ sym (append_assoc texts (text ∷ []) (lines_in zs))))
    (λ last. inr (at ∙ ap (λ (l : List (List ℕ)). texts ++ l) last.0, last.1))
    next)
    (λ all. absurd (some all.1))
    h

-- its calls were handed out
counted_on : (s : Service) (old new line text : List ℕ) (texts : List (List ℕ)) → served_line_of line ≡ served_line_of text → AreCounts old (calls_in s.clients texts) → length new ≡ length old
    → ((k count : ℕ) → slice_get old k ≡ Some count → slice_get new k ≡ Some (count + length (calls_of (suc k) (call_in s.clients (served_line_of line))))) → AreCounts new (calls_in s.clients (texts ++ text ∷ []))
counted_on s old new line text texts same are long each k count at =
    let before = was_there new old k count (sym long) at in
    let now : Some count ≡ Some (before.0 + length (calls_of (suc k) (call_in s.clients (served_line_of line)))) = sym at ∙ each k before.0 before.1 in
    let is : count ≡ before.0 + length (calls_of (suc k) (call_in s.clients (served_line_of line))) = cc now in
    is
    ∙ ap (λ (n : ℕ). n + length (calls_of (suc k) (call_in s.clients (served_line_of line)))) (are k before.0 before.1)
    ∙ ap (λ (o : Option ServedLine). length (calls_of (suc k) (calls_in s.clients texts)) + length (calls_of (suc k) (call_in s.clients o))) same
    ∙ sym
    (ap length (calls_around s.clients (suc k) texts [] text)
    ∙ length-append (calls_of (suc k) (calls_in s.clients texts)) (calls_of (suc k) (call_in s.clients (served_line_of text)) ++ [])
    ∙ ap (λ (l : List Call). length (calls_of (suc k) (calls_in s.clients texts)) + length l) (append-nil (calls_of (suc k) (call_in s.clients (served_line_of text)))))
  where
    was_there : (xs ys : List ℕ) (k q : ℕ) → length ys ≡ length xs → slice_get xs k ≡ Some q → (p : ℕ) × (slice_get ys k ≡ Some p)
    was_there [] ys k q long at = absurd (let none : None ≡ Some q = at in cc)
    was_there (x ∷ xs) [] k q long at = absurd (omega (arith, long))
    was_there (x ∷ xs) (y ∷ ys) zero q long at = (y, refl)
    was_there (x ∷ xs) (y ∷ ys) (suc k) q long at = was_there xs ys k q (let e : length ys ≡ length xs = omega (arith, long) in e) at

-- where the input's bytes are not known some lines were read all the same
pub taken_on : (s : Service) (from to last : Option (List ℕ)) (old new line : List ℕ) → HaveAsked s from to old → ReadsWholeLine to last line true → AreTaken old new (call_in s.clients (served_line_of line)) → HaveAsked s from last new
taken_on s None to last old new line h reads t = record {
  texts = h.texts ++ line ∷ [];
  leaves = tt;
  are = counted_on s old new line line h.texts refl h.are t.clients t.each;
  clients = t.clients ∙ h.clients;
}
taken_on s (Some xs) None last old new line h reads t = absurd h.leaves
taken_on s (Some xs) (Some ys) None old new line h reads t = absurd reads
taken_on s (Some xs) (Some ys) (Some zs) old new line h reads t = record {
  texts = h.texts ++ reads.1 ∷ [];
  leaves = read_on xs ys zs h.texts reads.1 h.leaves reads.0 reads.3;
  are = counted_on s old new line reads.1 h.texts (ap served_line_of reads.2 ∙ kept_asks reads.1) h.are t.clients t.each;
  clients = t.clients ∙ h.clients;
}

-- nothing was read yet
pub none_asked : (s : Service) (known : Option (List ℕ)) (counts : List ℕ) → counts ≡ replicate s.clients 0 → HaveAsked s known known counts
none_asked s known counts is = record {
  texts = [];
  leaves = leaves_all known;
  are = λ k count at. no_calls s.clients k count (ap (λ (l : List ℕ). slice_get l k) (sym is) ∙ at);
  clients = ap length is ∙ length-replicate s.clients 0;
}
  where
    no_calls : (n k count : ℕ) → slice_get (replicate n 0) k ≡ Some count → count ≡ 0
    no_calls zero k count at = absurd (let none : None ≡ Some count = at in cc)
    no_calls (suc n) zero count at = (let both : Some 0 ≡ Some count = at in (let e : 0 ≡ count = cc both in sym e))
    no_calls (suc n) (suc k) count at = no_calls n k count at

-- all lines were read
all_known : (s : Service) (from to last : Option (List ℕ)) (counts line : List ℕ) → HaveAsked s from to counts → ReadsWholeLine to last line false → IfSome from (λ input. AreCounts counts (calls_served s.clients input))
all_known s None to last counts line h reads = tt
all_known s (Some xs) None last counts line h reads = absurd h.leaves
all_known s (Some xs) (Some ys) None counts line h reads = absurd reads
all_known s (Some xs) (Some ys) (Some zs) counts line h reads = ⊎_elim
    (λ at k count here.
    h.are k count here
    ∙ ap length (sym (append-nil (calls_of (suc k) (calls_in s.clients h.texts))))
    ∙ sym (ap length (ap (λ (l : List (List ℕ)). calls_of (suc k) (calls_in s.clients l)) (at ∙ ap (λ (t : List ℕ). h.texts ++ lines_in t) reads.0) ∙ calls_around s.clients (suc k) h.texts [] [])))
    (λ all k count here. h.are k count here ∙ ap (λ (l : List (List ℕ)). length (calls_of (suc k) (calls_in s.clients l))) (sym all.0))
    h.leaves

pub all_asked : (s : Service) (from to last : Option (List ℕ)) (counts line : List ℕ) → s.input ≡ from → HaveAsked s from to counts → ReadsWholeLine to last line false → IfSome s.input (λ input. AreCounts counts (calls_served s.clients input))
all_asked s from to last counts line is h reads =
    subst (λ (o : Option (List ℕ)). IfSome o (λ input. AreCounts counts (calls_served s.clients input))) (sym is) (all_known s from to last counts line h reads)
