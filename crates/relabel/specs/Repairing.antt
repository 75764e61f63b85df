-- The components of a sector that share a face with a region are labelled anew.
-- Assumes nothing.
use Rattle.std.specs.Prelude.{ℕ, ◌+◌, ◌≤◌, ◌<◌, ◌≡◌, refl, List, ◌≢◌, length, get_or}
use Rattle.std.proofs.Common.{arith, ◌∙◌}
use Rattle.lists.specs.Sums.{In, at}
use Rattle.lists.specs.Parts.{Passed, passed_start, passed_turn, passed_map}
use Rattle.meaning.specs.Plan.{Edge}
use Rattle.meaning.specs.Joined.{Neighbours}
use Rattle.meaning.specs.Paths.{neighbours_far}
use Rattle.neighbours.specs.Net.{net_in}
use Rattle.search.specs.Counting.{Counting}
use Rattle.relabel.specs.Seeding.{Seedable, Seeded}
use Rattle.relabel.specs.Sowing.{Renewed, Sowing, sowing_start, sowing_next, sowing_turn, sowing_shut, sowing_few, sowing_end}

-- the components of sector d that share a face with v are labelled anew: the neighbours of v up to place j are looked at
pub record Repairing (R : ℕ) (edges : List Edge) (start nb col room : List ℕ) (v d : ℕ) (ls cur ls' queue : List ℕ) (e n j : ℕ) : Type 0 where
  pub given : Counting R edges start nb col room v d
  pub sowing : Sowing R edges col d ls cur ls' queue e n
  pub length-kept : length queue ≡ length room
  pub passed : Passed (λ x. at cur x ≢ d) nb (at start v) (get_or start v 0) j

module _ {R : ℕ} {edges : List Edge} {start nb col room : List ℕ} {v d : ℕ} {ls : List ℕ} where
  -- none is yet
  pub repairing_start : Counting R edges start nb col room v d → length ls ≡ R → Repairing R edges start nb col room v d ls col ls room 0 0 (at start v)
  repairing_start c size = record { given = c; sowing = sowing_start c size; length-kept = refl; passed = passed_start (c.net.rise v c.region) }

  module _ {cur ls' queue : List ℕ} {e n j : ℕ} (a : Repairing R edges start nb col room v d ls cur ls' queue e n j) where
    -- the next is looked at
    pub repairing_next : j < get_or start v 0 → Seedable R edges start nb d (get_or nb j 0) cur ls' queue e
    repairing_next h = sowing_next a.sowing a.given.net (net_in a.given.net v j a.given.region a.passed.low h)

    -- and its component is labelled
    pub repairing_turn : {cur'' ls'' queue'' : List ℕ} {e'' k : ℕ} → j < get_or start v 0 → length queue'' ≡ length queue → Seeded R edges d (get_or nb j 0) cur ls' queue cur'' ls'' queue'' e'' k
        → Repairing R edges start nb col room v d ls cur'' ls'' queue'' e'' (n + k) (j + 1)
    repairing_turn h q x =
        record {
          given = a.given;
          sowing = sowing_turn a.sowing x;
          length-kept = q ∙ a.length-kept;
          passed = passed_turn (passed_map (sowing_shut a.sowing x) a.passed) h x.shut;
        }

    -- no more labels are new then than there are regions
    pub repairing_few : {s : ℕ} {cur'' ls'' queue'' : List ℕ} {e'' k : ℕ} → Seeded R edges d s cur ls' queue cur'' ls'' queue'' e'' k → n + k ≤ R
    repairing_few x = sowing_few (sowing_turn a.sowing x)

    -- every component that shares a face with v is labelled, where no neighbour of v shows d
    pub repairing_end : get_or start v 0 ≤ j → Renewed R edges col d (Neighbours edges v) ls ls' n
    repairing_end h = sowing_end a.sowing a.given.net.ends shut
      where
        shut : (x : ℕ) → Neighbours edges v x → In R x × (at cur x ≢ d)
        shut x b =
            let s = a.given.net.all v x a.given.region b in
            (neighbours_far edges v x a.given.net.ends b, rw (← s.is) (a.passed.each s.index s.low (omega (arith, s.high))))
