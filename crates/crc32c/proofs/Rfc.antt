-- Sums joined, and a sum taken further, by RFC 3720's definition.
-- Assumes nothing.
use Rattle.std.proofs.Common.{◌≡◌, ℕ, List, ◌++◌, length, sym, ap, ◌∙◌, subst, ap₂}
use Rattle.crc32c.specs.Bytes.{Bytes}
use Rattle.crc32c.specs.Poly.{Crc}
use Rattle.crc32c.specs.Reg.{crc_of, joined, updated}
use Rattle.crc32c.proofs.Bytes.{bytes-append}
use Rattle.crc32c.proofs.Join.{crc_joined, crc_updated}
use Rattle.crc32c.proofs.Division.{crc_divides}
use Rattle.crc32c.proofs.Unique.{crc_only}

-- what equals the register's sum of the whole is the sum of the whole
whole : (a b : List ℕ) (s : ℕ) → Bytes a → Bytes b → s ≡ crc_of (a ++ b) → Crc (a ++ b) s
whole a b s ha hb e = subst (Crc (a ++ b)) (sym e) (crc_divides (a ++ b) (bytes-append a b ha hb))

pub crc_join : {a b : List ℕ} {c d : ℕ} → Bytes a → Bytes b → Crc a c → Crc b d → Crc (a ++ b) (joined c d (length b))
crc_join {a} {b} {c} {d} ha hb x y =
    whole a b (joined c d (length b)) ha hb
    (ap₂ (λ (u v : ℕ). joined u v (length b)) (crc_only ha x) (crc_only hb y) ∙ crc_joined a b)

pub crc_update : {a : List ℕ} {c : ℕ} (b : List ℕ) → Bytes a → Bytes b → Crc a c → Crc (a ++ b) (updated c b)
crc_update {a} {c} b ha hb x =
    whole a b (updated c b) ha hb (ap (λ (u : ℕ). updated u b) (crc_only ha x) ∙ crc_updated a b)
