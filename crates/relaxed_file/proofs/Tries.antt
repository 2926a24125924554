-- How many entries of a call stand in the chunks of a file: a try adds one, and no step takes one away.
use Rattle.std.proofs.Common.{◌≡◌, ℕ, zero, suc, ◌+◌, ◌<◌, ◌≤◌, Bool, cond, List, [], ◌∷◌, ◌++◌, refl, ◌∙◌, ap, subst, ⊎_elim, arith}
use Rattle.std.specs.Prelude.{◌&&◌, ◌==◌, not, count_by, IsTrue, IsFalse}
use Rattle.std.proofs.lemmas.Bool.{cases_lt, eq-eqb}
use Rattle.std.proofs.lemmas.List.Sums.{sum_by-cons, sum_by_push}
use Rattle.gfs_types.specs.Mutations.{is_pad}
use Rattle.relaxed_file.specs.Order.{CallId, same_call, Entry}
use Rattle.relaxed_file.specs.Machine.{Machine, Chunk, chunk_count}
use Rattle.relaxed_file.specs.Chunks.{tries_in, tries_below}
use Rattle.relaxed_file.proofs.Grows.{Grows, OrderGrows}

-- whether an entry is a try of the call
abbrev pub is_try : CallId → Entry → Bool
is_try id e = same_call id e.call && not (is_pad e.mutation)

abbrev pub one_try : CallId → Entry → ℕ
one_try id e = cond (is_try id e) 1 0

pub tries_cons : (id : CallId) (e : Entry) (rest : List Entry) → count_by (is_try id) (e ∷ rest) ≡ one_try id e + count_by (is_try id) rest
tries_cons id e rest = sum_by-cons (one_try id) e rest

pub tries_push : (id : CallId) (order : List Entry) (e : Entry) → count_by (is_try id) (order ++ e ∷ []) ≡ count_by (is_try id) order + one_try id e
tries_push id order e = sum_by_push (one_try id) order e

pub same_as_itself : (id : CallId) → IsTrue (same_call id id)
same_as_itself id = ap (λ b. b && (id.number == id.number)) (eq-eqb id.client id.client refl) ∙ eq-eqb id.number id.number refl

pub is_own_try : (id : CallId) (e : Entry) → e.call ≡ id → IsFalse (is_pad e.mutation) → one_try id e ≡ 1
is_own_try id e own no_pad =
    ap (λ b. cond b 1 0) (ap (λ (k : CallId). same_call id k && not (is_pad e.mutation)) own ∙ ap (λ b. b && not (is_pad e.mutation)) (same_as_itself id) ∙ ap not no_pad)

pub tries_rise_in : (id : CallId) (old new : List Entry) → OrderGrows old new → count_by (is_try id) old ≤ count_by (is_try id) new
tries_rise_in id [] new h = omega arith
tries_rise_in id (e ∷ old) [] h = absurd h
tries_rise_in id (e ∷ old) (f ∷ new) h =
    let rest : count_by (is_try id) old ≤ count_by (is_try id) new = tries_rise_in id old new h.1 in
    let same : one_try id e ≡ one_try id f = λ i. cond (same_call id ((h.0).0 i) && not (is_pad ((h.0).2 i))) 1 0 in
    omega (arith, rest, same, tries_cons id e old, tries_cons id f new)

chunks_rise : (id : CallId) (old new : ℕ → Chunk) (count : ℕ) → ((index : ℕ) → OrderGrows (old index).order (new index).order) → tries_below old id count ≤ tries_below new id count
chunks_rise id old new zero h = omega arith
chunks_rise id old new (suc count) h =
    let below : tries_below old id count ≤ tries_below new id count = chunks_rise id old new count h in
    let here : tries_in id (old count) ≤ tries_in id (new count) = tries_rise_in id (old count).order (new count).order (h count) in
    omega (arith, below, here)

more_chunks : (id : CallId) (chunks : ℕ → Chunk) (count later : ℕ) → count ≤ later → tries_below chunks id count ≤ tries_below chunks id later
more_chunks id chunks count zero l = subst (λ k. tries_below chunks id count ≤ tries_below chunks id k) (let same : count ≡ 0 = omega arith in same) (omega arith)
more_chunks id chunks count (suc later) l = ⊎_elim
    (λ less. let below : tries_below chunks id count ≤ tries_below chunks id later = more_chunks id chunks count later (omega arith) in omega (arith, below))
    (λ past. let same : count ≡ suc later = omega arith in subst (λ k. tries_below chunks id count ≤ tries_below chunks id k) same (omega arith))
    (cases_lt count (suc later))

-- no step takes a try away
pub tries_rise : (m n : Machine) (id : CallId) (file : ℕ) → Grows m n → tries_below (m.files file).chunks id (chunk_count m file) ≤ tries_below (n.files file).chunks id (chunk_count n file)
tries_rise m n id file g =
    let same : tries_below (m.files file).chunks id (chunk_count m file) ≤ tries_below (n.files file).chunks id (chunk_count m file) =
    chunks_rise id (m.files file).chunks (n.files file).chunks (chunk_count m file) (λ index. ((g.files file).chunks index).order) in
    let more : tries_below (n.files file).chunks id (chunk_count m file) ≤ tries_below (n.files file).chunks id (chunk_count n file) =
    more_chunks id (n.files file).chunks (chunk_count m file) (chunk_count n file) (g.files file).count in
    omega (arith, same, more)

-- the tries in one chunk are among those of the file
pub tries_there : (id : CallId) (chunks : ℕ → Chunk) (count index : ℕ) → index < count → tries_in id (chunks index) ≤ tries_below chunks id count
tries_there id chunks zero index l = absurd (omega arith)
tries_there id chunks (suc count) index l = ⊎_elim
    (λ less. let below : tries_in id (chunks index) ≤ tries_below chunks id count = tries_there id chunks count index less in omega (arith, below))
    (λ past. let same : index ≡ count = omega arith in let here : tries_in id (chunks index) ≡ tries_in id (chunks count) = ap (λ i. tries_in id (chunks i)) same in omega (arith, here))
    (cases_lt index count)
