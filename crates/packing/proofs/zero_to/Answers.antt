-- The part that was lent comes back with zeros.
use Rattle.std.proofs.Common.{◌≡◌, ℕ, ◌-◌, ◌∙◌, ap, replicate}
use Rattle.std.proofs.lemmas.List.{length-replicate}
use Rattle.packing.specs.Part.{length_part}
use Rattle.packing.specs.Puts.{put-part}
use Rattle.packing.proofs.zero_to.Goals as goal

pub returns : goal.returns
returns c =
    let zeros : c.fill.new.self ≡ replicate (c.args.end - c.args.at) 0 = c.fill.ensures.after (λ y h. h) ∙ ap (λ (n : ℕ). replicate n 0) (length_part c.args.at c.args.end c.args.bytes.now c.requires.0 c.requires.1) in
    rw zeros (put-part c.args.at c.args.end _ _ c.requires.0 (length-replicate (c.args.end - c.args.at) 0))
