-- The numbers that document 01 names.
use Rattle.std.specs.Prelude.{◌+◌, ◌*◌, ◌-◌}
use Rattle.rules.specs.Basics.{ℕ}

abbrev pub max_chunk : ℕ  -- "C is 0 or above 2,097,152"
max_chunk = 2097152

abbrev pub max_capacity : ℕ  -- "capacity above 1,073,741,824"
max_capacity = 1073741824

abbrev pub default_capacity : ℕ  -- "An opening that names no capacity has 33,554,432."
default_capacity = 33554432

abbrev pub store_size : (capacity limit : ℕ) → ℕ  -- "byte store, which also keeps the held bytes, shorter than capacity + 2 × C − 2"
store_size capacity limit = capacity + 2 * limit - 2

abbrev pub max_waiters : ℕ  -- "16 waiters wait"
max_waiters = 16

abbrev pub max_redirects : ℕ  -- "Redirects 1 to 3 turn 1 to 3 into continue"
max_redirects = 3
