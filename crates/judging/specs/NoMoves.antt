-- A call without moves on contents that are not refused: nothing of it is refused, and it leaves the verdicts on them and their total.
-- Assumes nothing.
use Rattle.std.specs.Prelude.{ℕ, ◌+◌, ◌*◌, ◌/◌, ◌≤◌, ◌≡◌, false, List, [], ◌++◌, ℤ, length, take}
use Rattle.std.proofs.Common.{arith, sym, ◌∙◌, take_at}
use Rattle.std.proofs.Math.Path.{refl, ap}
use borrow.Author.Tests.{le-leb}
use Rattle.std.proofs.Math.ListN.{drop}
use Rattle.lists.specs.SumLaws.{every_append}
use Rattle.lists.specs.ListLaws.{length-list_of}
use Rattle.meaning.specs.Plan.{constraint_length, constraint_at, constraints_of, most_regions, most_sectors, most_constraints}
use Rattle.meaning.specs.Moves.{verdict_length, moves_of, last}
use Rattle.meaning.proofs.MoveLaws.{length-verdicts}
use Rattle.meaning.specs.declared.Lists.{Lists}
use Rattle.refusals.specs.Table.{Row, none, plan_table, plan_refusal, room_table, call_table, call_refusal}
use Rattle.refusals.specs.Passed.{Passed, passed, passed_none}
use Rattle.call.specs.Promise.{Input, Outcome, given, ran, outcome, Promise, is_outcome, input}
use Rattle.form.specs.declared.Form.TheVariants.{Second}
use Rattle.form.specs.Form.{Contents}
use Rattle.form.proofs.ContentsLaws.{valid_contents, limits_valid}
use Rattle.form.specs.Refusals.{contents_table, contents_refusal}
use Rattle.form.specs.Over.{over}
use Rattle.holding.specs.Held.{Lends}
use Rattle.judging.specs.Judgement.{plan_held, verdicts_held, total_held}

-- ---- how many verdicts there are

-- two numbers for each constraint of the flat list
pub length-held : (k : Contents) → length (verdicts_held k) ≡ verdict_length * (length k.constraints / constraint_length)
unfolding constraints_of
length-held k =
    length-verdicts (plan_held k) k.colouring (constraints_of k.constraints)
    ∙ rw (length-list_of (length k.constraints / constraint_length) (constraint_at k.constraints))

-- ---- the call

module _ (k : Contents) (rows : List ℤ) (lent work : List ℕ) where
  -- what it is given
  abbrev pub asked : Input
  asked = input k.R k.S k.workloads k.outside k.edges k.counts k.visits k.constraints k.colouring [] rows lent work

  plan_rows : List Row
  plan_rows = contents_table Second k

  room_rows : List Row
  room_rows = room_table k.R k.S k.constraints [] (length rows) (length lent) (length work)

  module _ (z : (contents_refusal Second k).code ≡ 0) (v : verdict_length * most_constraints ≤ length lent) (w : most_regions + 2 * most_sectors + 1 ≤ length work) where
    -- there is room for the verdicts and for the work memory, and none is needed for rows
    passed_room : Passed room_rows
    unfolding room_table room_rows
    passed_room =
        let l = limits_valid Second k refl (valid_contents Second k z) in
        let of-verdicts = le-leb (verdict_length * (length k.constraints / constraint_length)) (length lent) (omega (arith, l.constraints.high)) in
        let of-work = le-leb (k.R + 2 * k.S + 1) (length work) (omega (arith, l.regions.high, l.sectors.high)) in
        (refl, (rw (le-leb 0 (length rows) (omega arith)), (rw of-verdicts, (rw of-work, tt))))

    -- and the call takes what the second sheet does
    passed_plan : Passed plan_rows
    unfolding plan_rows plan_table plan_refusal
    passed_plan = passed plan_rows tt z

    -- nothing is refused
    not-refused : call_refusal (given asked) ≡ none
    unfolding call_table call_refusal plan_rows room_rows
    not-refused = passed_none (plan_rows ++ room_rows) (every_append (λ r. r.given ≡ false) plan_rows room_rows passed_plan passed_room)

    -- the total is that of the colouring, and the verdicts on it stand at the front of the lent list
    pub judges : {o : Outcome} → Promise asked o → (o.answer.last ≡ total_held k) × (o.verdicts ≡ over (verdicts_held k) lent)
    unfolding outcome ran moves_of last
    judges {o} p =
        let e : o ≡ ran asked = is_outcome p ∙ rw not-refused in
        rw e (refl, ap (λ (n : ℕ). verdicts_held k ++ drop n lent) (sym (length-held k)))

-- so it is with lists that are those of the contents
pub judges_lists : (k : Contents) (rows : List ℤ) (lent work : List ℕ) → (contents_refusal Second k).code ≡ 0 → verdict_length * most_constraints ≤ length lent → most_regions + 2 * most_sectors + 1 ≤ length work
    → {l : Lists} {s : List ℕ} {x : Outcome} → Lends k l → s ≡ k.colouring
    → Promise (input k.R l.sectors l.workloads.now l.outside.now l.edges.now l.counts.now l.visits.now l.constraints.now s [] rows lent work) x → (x.answer.last ≡ total_held k) × (x.verdicts ≡ over (verdicts_held k) lent)
judges_lists k rows lent work z r m l s p = judges k rows lent work z r m (rw (l.sectors, l.workloads, l.outside, l.edges, l.counts, l.visits, l.constraints, s) at p)
