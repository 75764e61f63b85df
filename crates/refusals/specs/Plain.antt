-- A plan without outside areas is never refused for them.
-- Assumes nothing.
use Rattle.std.specs.Prelude.{ℕ, ◌<◌, ◌≡◌, false, not, List, [], ◌++◌, eqb, T, drop, length}
use Rattle.std.proofs.Common.{◌∙◌, eq-eqb}
use Rattle.std.proofs.Math.Path.{ap}
use Rattle.std.proofs.Math.ListN.{take}
use Rattle.std.proofs.lemmas.List.{length-replicate, get_or-replicate}
use Rattle.meaning.specs.Plan.{most_area, no_outside}
use Rattle.refusals.specs.declared.Refusal.{Refusal}
use Rattle.scans.specs.Items.{first_off, at_most}
use Rattle.refusals.specs.Table.{Row, none, whole, each, refusal, plan_table, plan_refusal}
use Rattle.refusals.specs.Passed.{front_passed, each_passed}
use Rattle.refusals.specs.Turn.{after, in_turn, after_passed, on_sizes, on_regions, from_edges, plan_in_turn}

-- there is one for each region
no_outside_long : (R : ℕ) → not (eqb (length (no_outside R)) R) ≡ false
no_outside_long R = rw (eq-eqb _ _ (length-replicate {A = ℕ} R 0))

-- and none is too large
no_outside_area : (R : ℕ) → not (eqb (first_off (length (no_outside R)) (at_most most_area (no_outside R))) 0) ≡ false
no_outside_area R = each_passed (at_most most_area (no_outside R)) (length (no_outside R)) right
  where
    right : (k : ℕ) → k < length (no_outside R) → T (at_most most_area (no_outside R) k)
    right k h = rw (get_or-replicate {A = ℕ} R k 0 0 (rw (length-replicate {A = ℕ} R 0) at h)) tt

-- so the rows on them are not given, and what comes after them settles it
pub no_outside_rows : (R : ℕ) (workloads : List ℕ) (more : List Row) → refusal more ≡ refusal (drop 2 (on_regions R workloads (no_outside R)) ++ more)
unfolding plan_table
no_outside_rows R workloads more =
    front_passed (drop 2 (on_regions R workloads (no_outside R))) more (no_outside_long R, (no_outside_area R, tt))

module _ (kinds R S : ℕ) (workloads edges counts visits constraints colouring : List ℕ) where
  -- the rows on such a plan but for those on its outside areas, in turn from none, give its refusal
  pub plain_in_turn : in_turn (in_turn none (on_sizes R S ++ take 2 (on_regions R workloads []))) (from_edges kinds R S edges counts visits constraints colouring) ≡ plan_refusal kinds R S workloads (no_outside R) edges counts visits constraints colouring
  unfolding plan_table in_turn
  plain_in_turn =
      let outside = no_outside R in
      let first = in_turn none (on_sizes R S ++ take 2 (on_regions R workloads [])) in
      let long = whole 14 (eqb (length outside) R) in
      let area = each 14 (length outside) (at_most most_area outside) in
      let skipped = after_passed first long (no_outside_long R) ∙ after_passed (after first long) area (no_outside_area R) in
      ap (λ (f : Refusal). in_turn f (from_edges kinds R S edges counts visits constraints colouring)) skipped
      ∙ plan_in_turn kinds R S workloads outside edges counts visits constraints colouring
