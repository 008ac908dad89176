-- Two sums are joined: the first goes through as many zero bytes as the second has bytes.
-- Assumes nothing.
use Rattle.std.proofs.Common.{◌≡◌, ℕ, List, [], ◌∷◌, ◌++◌, length, sym, refl, ap, ◌∙◌}
use lib.Bits.{bit_xor, xor_comm, xor_self}
use Rattle.crc32c.specs.Reg.{steps, feed, reg, zeros, ones32, crc_of, joined, updated}
use Rattle.crc32c.proofs.Xor.{xor_assoc, xor_cancel, xor_swap}
use Rattle.crc32c.proofs.Linear.{steps-xor}

feed-xor : (r s b : ℕ) → feed (bit_xor r s) b ≡ bit_xor (feed r b) (steps 8 s)
unfolding feed
feed-xor r s b = ap (steps 8) (xor_swap r s b) ∙ steps-xor 8 (bit_xor r b) s

pub reg-xor : (r s : ℕ) (bs : List ℕ) → reg (bit_xor r s) bs ≡ bit_xor (reg r bs) (zeros (length bs) s)
unfolding reg zeros
reg-xor r s [] = refl
reg-xor r s (b ∷ bs) = ap (λ (x : ℕ). reg x bs) (feed-xor r s b) ∙ reg-xor (feed r b) (steps 8 s) bs

pub reg-append : (r : ℕ) (a b : List ℕ) → reg r (a ++ b) ≡ reg (reg r a) b
unfolding reg
reg-append r [] b = refl
reg-append r (x ∷ a) b = reg-append (feed r x) a b

-- over any preset s, which is also what complements
preset : (s : ℕ) (a b : List ℕ) → bit_xor (reg s (a ++ b)) s ≡ bit_xor (zeros (length b) (bit_xor (reg s a) s)) (bit_xor (reg s b) s)
preset s a b =
    let ca : ℕ = bit_xor (reg s a) s in
    ap (λ (x : ℕ). bit_xor x s) (reg-append s a b ∙ ap (λ (x : ℕ). reg x b) (sym (xor_cancel (reg s a) s) ∙ xor_comm ca s) ∙ reg-xor s ca b)
    ∙ ap (λ (x : ℕ). bit_xor x s) (xor_comm (reg s b) (zeros (length b) ca))
    ∙ xor_assoc (zeros (length b) ca) (reg s b) s

pub crc_joined : (a b : List ℕ) → joined (crc_of a) (crc_of b) (length b) ≡ crc_of (a ++ b)
unfolding joined crc_of
crc_joined a b = sym (preset ones32 a b)

pub crc_updated : (a b : List ℕ) → updated (crc_of a) b ≡ crc_of (a ++ b)
unfolding updated crc_of
crc_updated a b = ap (λ (x : ℕ). bit_xor x ones32) (ap (λ (x : ℕ). reg x b) (xor_cancel (reg ones32 a) ones32) ∙ sym (reg-append ones32 a b))

-- the sum of nothing
pub crc_none : crc_of [] ≡ 0
unfolding crc_of reg
crc_none = xor_self ones32
