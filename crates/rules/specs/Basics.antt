-- What the definitions take from the libraries, the natural number of a signed one, and what is said of each element of a list.
pub use Rattle.std.specs.Prelude.{◌≡◌, ◌≢◌, Bool, true, false, not, cond, ◌&&◌, ◌||◌, List, [], ◌∷◌, ◌++◌, ℕ, zero, suc, ◌+◌, ◌-◌, ◌*◌, ◌^◌, min, max, ◌≤◌, ◌<◌, length, take, drop, leb, ltb, eqb, ℤ, pos, negsuc, nat_abs, ◌+ℤ◌, ◌-ℤ◌}
pub use Rattle.std.proofs.Math.Option.{Option, none, some, get_or as Option·getD}
pub use Rattle.std.proofs.Math.ListN.{get_elem?}
pub use Rattle.std.specs.Int.Signed.{le_z, lt_z}

abbrev pub to_ℕ : ℤ → ℕ  -- 0 for one below 0
to_ℕ (pos n) = n
to_ℕ (negsuc n) = 0

abbrev pub All {ℓ} : {A : Type ℓ} → (A → Type 0) → List A → Type 0
All Q [] = Unit {0}
All Q (x ∷ xs) = Q x × All Q xs
