-- A list that is long enough for all numbers of a sheet holds as many of each as the head says.
-- Assumes nothing.
use Rattle.std.specs.Prelude.{ℕ, ◌≤◌, ◌≡◌, refl, List, length}
use Rattle.std.proofs.Common.{arith, ap, ◌∙◌}
use Rattle.packing.specs.Part.{length_part}
use Rattle.refusals.specs.declared.Refusal.{Refusal}
use Rattle.blocks.specs.Block.{block_length}
use Rattle.form.specs.declared.Form.{Form}
use Rattle.form.specs.declared.Form.TheVariants.{Second}
use Rattle.form.specs.declared.Head.{Head}
use Rattle.form.specs.Form.{Contents, head_in, contents_in}
use Rattle.form.specs.FormLaws.{Bounded}
use Rattle.form.proofs.FormLaws.{some_block, bounded}
use Rattle.form.proofs.ContentsLaws.{Counted, second_takes}
use Rattle.form.specs.Refusals.{contents_refusal}
use Rattle.form.specs.Accepted.{Accepted}
use Rattle.form.proofs.AcceptedLaws.{accepted}
use Rattle.holding.specs.Held.{outside_at, edges_at, constraints_at, colouring_at, counts_at, visits_at, held_end, most_held, contents_held, Holds}

-- there is room for what is held
pub held_room : (h : Head) {n : ℕ} → Bounded h → most_held ≤ n → held_end h ≤ n
held_room h b r = omega (arith, b.regions, b.edges, b.constraints, b.flights, b.visits)

pub counted_held : (h : Head) (held : List ℕ) → Bounded h → most_held ≤ length held → Counted h (contents_held h held)
counted_held h held b r =
    let m : held_end h ≤ length held = held_room h b r in
    record {
      regions = refl;
      sectors = refl;
      workloads = length_part 0 (outside_at h) held (omega arith) (omega arith) ∙ omega arith;
      outside = length_part (outside_at h) (edges_at h) held (omega arith) (omega arith) ∙ omega arith;
      edges = length_part (edges_at h) (constraints_at h) held (omega arith) (omega arith) ∙ omega arith;
      counts = length_part (counts_at h) (visits_at h) held (omega arith) (omega arith) ∙ omega arith;
      visits = length_part (visits_at h) (held_end h) held (omega arith) (omega arith) ∙ omega arith;
      constraints = length_part (constraints_at h) (colouring_at h) held (omega arith) (omega arith) ∙ omega arith;
      colouring = length_part (colouring_at h) (counts_at h) held (omega arith) (omega arith) ∙ omega arith;
    }

-- ---- a sheet that is held

module _ {f : Form} {sheet : List ℕ} {r : Refusal} {held : List ℕ} (p : Holds f sheet r held) (z : r.code ≡ 0) where
  -- it is accepted
  pub holds-accepted : Accepted f sheet
  holds-accepted = accepted f sheet (rw p.refusal at z)

  -- has a head
  pub holds_head : block_length ≤ length sheet
  holds_head = omega (arith, holds-accepted.opened.long, some_block f (head_in f sheet))

  -- whose numbers are within the limits
  pub holds-bounded : {h : Head} → h ≡ head_in f sheet → Bounded h
  holds-bounded e = rw e (bounded f holds-accepted.opened.limits)

  -- and whose contents are those that are held
  pub holds-contents : {h : Head} → h ≡ head_in f sheet → contents_held h held ≡ contents_in f sheet
  holds-contents e = rw e (p.contents z)

  -- which the second sheet takes, and so does the call
  pub holds-taken : {h : Head} → h ≡ head_in f sheet → (contents_refusal Second (contents_held h held)).code ≡ 0
  holds-taken e = ap (λ (k : Contents). (contents_refusal Second k).code) (holds-contents e) ∙ second_takes f (contents_in f sheet) holds-accepted.valid
