-- With the region lifted out it leaves its sector and comes to the other, and between them they change every label that changes, once.
use Prim.Native.Nat.{ℕ}
use native.Mathlib.Omega.{arith}
use mathlib.Core.Path.{ap, ◌∙◌}
use mathlib.Core.List.{List}
use Rattle.meaning.specs.Faces.{lift}
use Rattle.relabel.specs.Recolouring.{recolouring_leave, recolouring-put, recolouring_end}
use Rattle.relabel.proofs.recolour.Goals as goal

pub leave-left-requires : goal.leave-left-requires
leave-left-requires c = recolouring_leave c.requires (ap (λ (l : List ℕ). lift l c.args.region) c.pieces_at-pieces.ensures.colouring_unchanged) _ c.pieces_at-pieces.auto.queue c.pieces_at-pieces.ensures.value

pub overflow_add-relabelled : goal.overflow_add-relabelled
overflow_add-relabelled c =
    let e = ap (λ (l : List ℕ). lift l c.args.region) c.pieces_at-pieces.ensures.colouring_unchanged in
    omega (arith, (recolouring_end c.requires e c.leave-left.ensures.labels_after c.leave-left.ensures.colouring_unchanged c.leave-left.ensures.value c.come.ensures.labels_after c.come.ensures.value).few, c)

pub returns : goal.returns
returns c =
    let e = ap (λ (l : List ℕ). lift l c.args.region) c.pieces_at-pieces.ensures.colouring_unchanged in
    let made = recolouring_end c.requires e c.leave-left.ensures.labels_after c.leave-left.ensures.colouring_unchanged c.leave-left.ensures.value c.come.ensures.labels_after c.come.ensures.value in
    record { colouring_after = c.come.ensures.colouring_after ∙ recolouring-put c.requires (c.leave-left.ensures.colouring_unchanged ∙ e); labels_after = made.labelled; relabelled_value = made.number; pieces_value = c.pieces_at-pieces.ensures.value }
