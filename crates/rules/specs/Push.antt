-- `push` of coalescing_buffer.rs, and an append "repeated until all is taken", which document 01 says "equals `push`".
use Rattle.std.specs.Prelude.{◌∷◌, ◌++◌, ◌-◌}
use Rattle.rules.specs.Basics.{cond, List, [], ℕ, zero, suc, min, length, take, drop, leb, ltb}
use Rattle.rules.specs.Message.{Bytes}

-- ---- the source: chunks that are ready, and what is held

-- "2. slice complete ... chunks directly", "3. Store remaining trailing bytes": at most so many rounds
unfoldable pub sliced : ℕ → ℕ → Bytes → List Bytes × Bytes
sliced zero limit d = ([], d)
sliced (suc n) limit d =
    let r = sliced n limit (drop limit d) in
    cond (leb limit (length d)) (take limit d ∷ r.0, r.1) ([], d)

unfoldable pub push : ℕ → Bytes → Bytes → List Bytes × Bytes  -- "1. If buffer has partial data, fill it up ... first."
push limit [] d = sliced (length d) limit d
push limit (x ∷ held) d =
    let needed = limit - length (x ∷ held) in
    let r = sliced (length d) limit (drop needed d) in
    cond (ltb (length d) needed) ([], (x ∷ held) ++ d) (((x ∷ held) ++ take needed d) ∷ r.0, r.1)

-- ---- document 01

abbrev pub taken_by : ℕ → Bytes → Bytes → ℕ  -- "Append takes the smaller of its length and C − held."
taken_by limit held d = min (length d) (limit - length held)

unfoldable pub once : ℕ → Bytes → Bytes → List Bytes × Bytes  -- one append: "Held bytes reaching C are cut as one chunk"
once limit held d = let b = held ++ take (taken_by limit held d) d in cond (leb limit (length b)) (b ∷ [], []) ([], b)

unfoldable pub repeated : ℕ → ℕ → Bytes → Bytes → List Bytes × Bytes  -- "repeated until all is taken": at most so many times
repeated zero limit held d = ([], held)
repeated (suc n) limit held [] = ([], held)
repeated (suc n) limit held (x ∷ d) =
    let r = once limit held (x ∷ d) in
    let q = repeated n limit r.1 (drop (taken_by limit held (x ∷ d)) (x ∷ d)) in
    (r.0 ++ q.0, q.1)
