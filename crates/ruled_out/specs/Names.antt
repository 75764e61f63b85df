-- Document 02, C-18: what moves with the names of sectors does not stay, where an office exchanges the two of sheet A.
-- Assumes nothing.
use Rattle.std.specs.Prelude.{ℕ, ◌-◌, ◌≡◌, refl, List, [], ◌∷◌}
use Rattle.std.proofs.Common.{arith}
use Rattle.lists.specs.Sums.{In}
use Rattle.meaning.specs.Plan.{Plan, edges_of}
use Rattle.meaning.specs.Joined.{take_in, take_every, labels}
use Rattle.meaning.specs.Kinds.{ncc, load}
use Rattle.meaning.specs.Names.{Renaming, name, renamed}
use Rattle.form.proofs.SheetA.{sheet_a}
use Rattle.judging.specs.Judgement.{plan_held}

-- sheet A's plan
abbrev plan_a : Plan
plan_a = plan_held sheet_a

-- the last region is in sector 1, apart from the others: sector 1 has two components and workload 75, sector 2 one and 25
abbrev ours : List ℕ
ours = 1 ∷ 1 ∷ 1 ∷ 2 ∷ 1 ∷ []

-- sector 1 is called 2, and sector 2 is called 1
abbrev exchanged : ℕ → ℕ
exchanged c = 3 - c

-- that is a renaming
exchanged_renaming : Renaming 2 exchanged
exchanged_renaming = record { within = λ c i. record { low = omega (arith, i.high); high = omega (arith, i.low) }; apart = λ c d i j e. omega (arith, i.high, j.high) }

-- the same in the new names
abbrev theirs : List ℕ
theirs = renamed 2 exchanged ours

-- there is a sector 1
first : In 2 1
first = record { low = omega arith; high = omega arith }

-- component counts do not stay where they are
counts_stay : ((c : ℕ) → In 2 c → ncc plan_a theirs c ≡ ncc plan_a ours c) → ⊥
unfolding sheet_a edges_of take_in take_every labels ncc name
counts_stay h = omega (arith, h 1 first, one, two)
  where
    one : ncc plan_a theirs 1 ≡ 1
    one = refl

    two : ncc plan_a ours 1 ≡ 2
    two = refl

-- and neither do workload sums
loads_stay : ((c : ℕ) → In 2 c → load plan_a theirs c ≡ load plan_a ours c) → ⊥
unfolding sheet_a load name
loads_stay h = omega (arith, h 1 first, less, more)
  where
    less : load plan_a theirs 1 ≡ 25
    less = refl

    more : load plan_a ours 1 ≡ 75
    more = refl
