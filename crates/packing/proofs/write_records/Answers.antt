-- Each turn puts down the next record.
use Rattle.std.proofs.Common.{◌≡◌, ◌+◌, ◌-◌, ◌*◌, arith, length}
use Rattle.packing.specs.Numbers.{total}
use Rattle.packing.specs.Records.{records-written_start, records-written_turn}
use Rattle.packing.proofs.write_records.Goals as goal

pub loop-k-init : goal.loop-k-init
loop-k-init c =
    let left : c.args.count - 0 ≡ c.args.count = omega arith in
    let from : 0 * length c.args.shape.widths.now ≡ 0 = omega arith in
    let to : c.args.at + 0 * c.args.shape.stride ≡ c.args.at = omega arith in
    rw (left, from, to) (records-written_start c.requires.shape.0 (omega (arith, c.requires.count_in_bounds.0)) (rw c.requires.shape.1 at c.requires.count_in_bounds.1))

pub loop-k-preserved : goal.loop-k-preserved
loop-k-preserved c =
    let ws = c.args.shape.widths.now in
    let left : c.args.count - (c.loop-k.k + 1) ≡ c.args.count - c.loop-k.k - 1 = omega arith in
    let from : (c.loop-k.k + 1) * length ws ≡ c.loop-k.k * length ws + length ws = omega arith in
    let to : c.args.at + (c.loop-k.k + 1) * c.args.shape.stride ≡ c.args.at + c.loop-k.k * c.args.shape.stride + total ws = omega (arith, c.requires.shape.1) in
    rw (left, from, to) (records-written_turn c.loop-k.invariant (omega arith) c.write_record.ensures)
