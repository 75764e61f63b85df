-- Constraints of fewer kinds, or of more: where each has one of the kinds that are taken, a plan is refused for nothing that it is not refused for otherwise.
-- Assumes nothing.
use Rattle.std.specs.Prelude.{ℕ, ◌/◌, ◌≤◌, ◌<◌, ◌≡◌, Bool, false, not, ◌&&◌, List, eqb, leb, T, length}
use Rattle.std.proofs.Common.{arith, le→leb}
use Rattle.std.proofs.Math.Bool.{true}
use Rattle.terms.specs.Plan.{within}
use Rattle.meaning.specs.Plan.{constraint_length, constraint_at, most_limit, most_weight}
use Rattle.scans.specs.Items.{first_off, takes, constraint_right}
use Rattle.refusals.specs.Table.{plan_table, plan_refusal}
use Rattle.refusals.specs.Passed.{Passed, passed, all_five, in_limits, passed_each, each_passed}

-- where four tests pass, so they do with another first one that passes
other_first : (a a' b c d : Bool) → T a' → T (a && b && c && d) → T (a' && b && c && d)
other_first true true true true true h t = tt
other_first false _ b c d h t = elim t [ ]
other_first true false b c d h t = elim h [ ]
other_first true true false c d h t = elim t [ ]
other_first true true true false d h t = elim t [ ]
other_first true true true true false h t = elim t [ ]

-- two tests that pass do so together
both_pass : (a b : Bool) → T a → T b → T (a && b)
both_pass true true s t = tt
both_pass false b s t = elim s [ ]
both_pass true false s t = elim t [ ]

-- one of fewer kinds is one of more
within_more : {few most : ℕ} → few ≤ most → (x : ℕ) → T (within 1 x few) → T (within 1 x most)
within_more {few} {most} more x t =
    let i = in_limits few x t in
    both_pass (leb 1 x) (leb x most) (le→leb 1 x i.low) (le→leb x most (omega (arith, i.high)))

module _ (constraints : List ℕ) where
  abbrev kind_in : ℕ → ℕ → Bool
  kind_in kinds k = within 1 (constraint_at constraints k).kind kinds

  -- a constraint that is right has one of the kinds
  pub right_kind : (kinds k : ℕ) → T (constraint_right kinds constraints k) → T (kind_in kinds k)
  unfolding constraint_right
  right_kind kinds k t =
      let c = constraint_at constraints k in
      (all_five true (kind_in kinds k) (takes c.kind c.relation) (leb c.limit most_limit) (within 1 c.weight most_weight) t).1.0

  -- and is right with any others that have its kind
  pub kind_right_lem : (kinds others k : ℕ) → T (constraint_right kinds constraints k) → T (kind_in others k) → T (constraint_right others constraints k)
  unfolding constraint_right
  kind_right_lem kinds others k t h =
      let c = constraint_at constraints k in
      other_first (kind_in kinds k) (kind_in others k) (takes c.kind c.relation) (leb c.limit most_limit) (within 1 c.weight most_weight) h t

  module _ (kinds others R S : ℕ) (workloads outside edges counts visits colouring : List ℕ)
      (each : (k : ℕ) → k < length constraints / constraint_length → T (constraint_right kinds constraints k) → T (kind_in others k))
    where
      each-other : let n = length constraints / constraint_length in
          not (eqb (first_off n (constraint_right kinds constraints)) 0) ≡ false → not (eqb (first_off n (constraint_right others constraints)) 0) ≡ false
      each-other e =
          let n = length constraints / constraint_length in
          each_passed (constraint_right others constraints) n (λ k h. let t = passed_each (constraint_right kinds constraints) n e k h in kind_right_lem kinds others k t (each k h t))

      -- the tables differ in one row only
      rows_other : Passed (plan_table kinds R S workloads outside edges counts visits constraints colouring) → Passed (plan_table others R S workloads outside edges counts visits constraints colouring)
      unfolding plan_table
      rows_other (regions, (sectors, (workloads-long, (workload, (outside-long, (outside-area, (edges-whole, (edge, (flights_few, (count, (visits-long, (flight, (constraints_whole, (constraint, on-colouring)))))))))))))) = (
        regions,
        (sectors, (workloads-long, (workload, (outside-long, (outside-area, (edges-whole, (edge, (flights_few, (count, (visits-long, (flight, (constraints_whole, (each-other constraint, on-colouring))))))))))))),
      )

      -- a plan that is not refused passes the table of other kinds that its constraints have
      pub passed_other_kinds : (plan_refusal kinds R S workloads outside edges counts visits constraints colouring).code ≡ 0 → Passed (plan_table others R S workloads outside edges counts visits constraints colouring)
      unfolding plan_table plan_refusal
      passed_other_kinds z = rows_other (passed (plan_table kinds R S workloads outside edges counts visits constraints colouring) tt z)

-- a plan that is not refused with constraints of few kinds passes the table of more
pub passed_more_kinds : {few most : ℕ} → few ≤ most → (R S : ℕ) (workloads outside edges counts visits constraints colouring : List ℕ)
    → (plan_refusal few R S workloads outside edges counts visits constraints colouring).code ≡ 0 → Passed (plan_table most R S workloads outside edges counts visits constraints colouring)
passed_more_kinds {few} {most} more R S workloads outside edges counts visits constraints colouring =
    passed_other_kinds constraints few most R S workloads outside edges counts visits colouring (λ k h t. within_more more (constraint_at constraints k).kind (right_kind constraints few k t))
