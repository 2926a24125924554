-- the bytes of an image, one place after another
use Rattle.std.proofs.Common.{◌≡◌, ℕ, suc, ◌+◌, ◌-◌, ◌<◌, List, [], ◌∷◌, ◌++◌, ap, sym, ◌∙◌, arith, add-one, append_assoc}
use Rattle.gfs_types.specs.declared.mutation.Mutation.{Mutation}
use Rattle.gfs_types.specs.Image.{bytes_from, byte_at}

-- the first byte of what is left of a range, and the rest
pub bytes_from-less : (ms : List Mutation) (place total : ℕ) → place < total
    → bytes_from ms place (total - place) ≡ byte_at ms place ∷ bytes_from ms (place + 1) (total - (place + 1))
bytes_from-less ms place total h =
    let e : total - place ≡ suc (total - (place + 1)) = omega arith in
    ap (λ n. bytes_from ms place n) e ∙ ap (λ p. byte_at ms place ∷ bytes_from ms p (total - (place + 1))) (sym (add-one place))

-- one byte more stands before what is left
pub byte_taken : (ms : List Mutation) (place total : ℕ) (done next : List ℕ) → place < total → next ≡ done ++ byte_at ms place ∷ []
    → next ++ bytes_from ms (place + 1) (total - (place + 1)) ≡ done ++ bytes_from ms place (total - place)
byte_taken ms place total done next h is =
    ap (λ xs. xs ++ bytes_from ms (place + 1) (total - (place + 1))) is
    ∙ append_assoc done (byte_at ms place ∷ []) (bytes_from ms (place + 1) (total - (place + 1)))
    ∙ ap (λ xs. done ++ xs) (sym (bytes_from-less ms place total h))
