-- Codes of what stands in finite maps.
use Rattle.std.specs.Prelude.{ℕ, refl}
use Rattle.std.specs.Coded.{Coded, code_by, coded×, coded_ℕ}
use Rattle.protocol.specs.Logged.{Copy}

abbrev pub coded_copy : Coded Copy
coded_copy =
    code_by (ℕ × (ℕ × ℕ)) (coded× coded_ℕ (coded× coded_ℕ coded_ℕ))
    (λ c. (c.file, (c.index, c.source)))
    (λ p. record { file = p.0; index = p.1.0; source = p.1.1 })
    (λ _. refl)
