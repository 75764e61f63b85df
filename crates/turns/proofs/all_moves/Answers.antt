-- After each turn the moves that are left lead where all moves lead, and their rows complete the rows.
use Rattle.std.specs.Prelude.{ℕ, ◌*◌, ◌+◌}
use Rattle.std.proofs.Common.{arith, refl, ap, ◌∙◌, rules}
use Rattle.std.proofs.lemmas.List.{length-replicate}
use Rattle.std.proofs.lemmas.List.Edits.{sets}
use Rattle.meaning.specs.Plan.{most_regions, most_sectors}
use Rattle.meaning.specs.Moves.{row_length, cells}
use Rattle.search.specs.Remembered.{remembered_same}
use Rattle.turns.specs.StateLaws.{setting_queue, remembered_start}
use Rattle.turns.specs.Taken.{taken_start, taken_turn, taken_end}
use Rattle.turns.proofs.all_moves.Goals as goal

pub returns-then-n-eq0 : goal.returns-then-n-eq0
returns-then-n-eq0 c = let r = taken_end (taken_start c.requires.ready c.requires.move_length_in_bounds) (omega (arith, c.if-n-eq0.true)) in record { opened = r.0; rows_after = r.1 }

pub weights_of-weights-requires : goal.weights_of-weights-requires
weights_of-weights-requires c = record { few = c.requires.setting.limits.constraints; constraint = c.requires.setting.limits.constraint }

pub loop-k-init : goal.loop-k-init
loop-k-init c = (taken_start c.requires.ready c.requires.move_length_in_bounds, refl, refl, refl, refl, refl, remembered_start c.requires.setting.limits c.requires.ready.coloured, length-replicate {A = ℕ} (most_regions + most_sectors) 0)

pub turn-turned-requires : goal.turn-turned-requires
turn-turned-requires c = record { sorted = (c.requires.sorted, c.weights_of-weights.ensures); remembered = c.loop-k.invariant.6; k_bound = omega (arith, c.loop-k-test.true, c.requires.move_length_bound); setting = setting_queue c.requires.setting c.loop-k.invariant.4; ready = c.loop-k.invariant.0.ready; move_length_in_bounds = omega (arith, c.loop-k-test.true); flown = c.requires.flown }

pub put_row-requires : goal.put_row-requires
put_row-requires c = record { row_length_in_bounds = omega (arith, c.loop-k-test.true, c.requires.move_length_in_bounds, c.loop-k.invariant.5); every = c.turn-turned.ensures.every }

pub loop-k-preserved : goal.loop-k-preserved
loop-k-preserved c = (
  taken_turn c.loop-k.invariant.0 c.requires.setting.limits c.loop-k-test.true c.turn-turned.ensures.opened (c.put_row.ensures ∙ ap (λ x. sets c.loop-k.rows (row_length * c.loop-k.k) (cells x)) c.turn-turned.ensures.row_value),
  search rules,
  search rules,
  search rules,
  search rules,
  search rules,
  remembered_same c.turn-turned.ensures.opened.colouring c.turn-turned.ensures.remembered,
  search rules,
)

pub returns : goal.returns
returns c = let r = taken_end c.loop-k.invariant.0 c.loop-k-test.false in record { opened = r.0; rows_after = r.1 }
