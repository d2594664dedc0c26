-- The promise over time: 'Coming back restores the order and all group sums as they were when last kept under that name, after any calls for that path
-- in between, if the records were not cleared since and nobody else wrote them. Other names are unaffected.'
use Rattle.std.specs.Prelude.{◌≡◌, List, ◌≢◌, ℕ, Result, Err}
use Rattle.base.specs.declared.Refusal.{Refusal}
use Rattle.screen.specs.Records.{Records}
use Rattle.screen.specs.Screen.{SumsAreMade, ForkIsExchanged}
use Rattle.named.specs.Calls.{Kept, OrderIsKept, OrderComesBack}

-- one call for the path, accepted or refused, by its own promise: what the screen shows and what is kept, before it and after it. Each caller may know
-- another highest version. Nothing more is kept under name m, and the marks are not cleared
pub data Call (bytes : List ℕ) (m : ℕ) : Records → Kept → Records → Kept → Type 0 where
  keeps : (highest name : ℕ) (shown : Records) (kept kept' : Kept) (r : Result Unit Refusal) → name ≢ m
      → OrderIsKept bytes highest name shown kept kept' r → Call bytes m shown kept shown kept'
  -- a keeping under name m itself that was refused
  keeps-nothing : (highest : ℕ) (r : Refusal) (shown : Records) (kept kept' : Kept) → OrderIsKept bytes highest m shown kept kept' (Err r) → Call bytes m shown kept shown kept'
  comes_back : (highest name : ℕ) (shown shown' : Records) (kept : Kept) (r : Result Unit Refusal)
      → OrderComesBack bytes highest name shown shown' kept r → Call bytes m shown kept shown' kept
  exchanges : (highest fork : ℕ) (shown shown' : Records) (kept : Kept) (r : Result Unit Refusal)
      → ForkIsExchanged bytes highest fork shown.order shown.sums shown'.order shown'.sums r → Call bytes m shown kept shown' kept
  makes-sums : (highest : ℕ) (shown shown' : Records) (kept : Kept) (r : Result Unit Refusal) → shown'.order ≡ shown.order
      → SumsAreMade bytes highest shown.order shown.sums shown'.sums r → Call bytes m shown kept shown' kept
  -- any call that is lent none of these to write, as one that gives a fork's cost
  elsewhere : (shown : Records) (kept : Kept) → Call bytes m shown kept shown kept

-- any number of them, one after another
pub data Calls (bytes : List ℕ) (m : ℕ) : Records → Kept → Records → Kept → Type 0 where
  none : (shown : Records) (kept : Kept) → Calls bytes m shown kept shown kept
  next : (a : Records) (x : Kept) (b : Records) (y : Kept) (c : Records) (z : Kept) → Calls bytes m a x b y → Call bytes m b y c z → Calls bytes m a x c z
