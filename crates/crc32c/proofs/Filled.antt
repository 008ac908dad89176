-- A list that is filled from the front by a rule.
-- Assumes nothing.
use Rattle.std.proofs.Common.{◌≡◌, ℕ, ◌<◌, List, get_or}

-- the first i places are as f says
abbrev pub Filled : (ℕ → ℕ) → ℕ → List ℕ → Type 0
Filled f i l = (k : ℕ) → k < i → get_or l k 0 ≡ f k
