-- One read of a file, as contracts see it.
use Rattle.std.specs.Prelude.{ℕ, List, refl}
use Rattle.std.specs.Coded.{Coded, code_by, coded×, coded_ℕ, coded_list, coded_option}
use Rattle.std.specs.declared.option.Option.{Option}

-- The name of the file, the most bytes that were asked for, and the bytes that were answered, or none.
pub record Read : Type 0 where
  pub name : List ℕ
  pub most : ℕ
  pub bytes : Option (List ℕ)

-- How a read is stored, by which proofs tell reads apart.
abbrev pub coded_read : Coded Read
coded_read =
    code_by (List ℕ × (ℕ × Option (List ℕ))) (coded× (coded_list coded_ℕ) (coded× coded_ℕ (coded_option (coded_list coded_ℕ))))
    (λ r. (r.name, (r.most, r.bytes))) (λ p. record { name = p.0; most = p.1.0; bytes = p.1.1 }) (λ _. refl)
