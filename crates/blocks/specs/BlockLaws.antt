-- A block that is written has nothing wrong, and a block with nothing wrong is as it was written.
-- Assumes nothing.
use Prim.Native.Nat.{ℕ, ◌+◌, ◌-◌, ◌≤◌}
use native.Mathlib.Omega.{arith}
use Rattle.std.specs.Prelude.{◌≡◌, refl, Bool, true, false, take, set}
use Rattle.std.proofs.Math.Path.{sym}
use Rattle.std.proofs.Common.{ap, ◌∙◌, take_all, drop_at}
use mathlib.Core.List.{List, [], ◌∷◌, ◌++◌, append_assoc}
use Rattle.std.proofs.Math.Bool.{and-eq-true_iff}
use Rattle.std.proofs.Math.ListN.{length, replicate, length-append, length-replicate}
use Rattle.std.proofs.Math.Seq.{take_at}
use Rattle.packing.specs.Part.{part, length_part, part-take, part_cut, part_middle}
use Rattle.packing.specs.Put.{put}
use Rattle.packing.specs.Numbers.{le}
use Rattle.blocks.specs.Fletcher.{check}
use Rattle.blocks.specs.Same.{same, same-eq, eq-same}
use Rattle.blocks.specs.Block.{block_length, letters_length, kind_at, zero_at, number_at, used_at, header_length, most_payload, checked_length, header, body, block_of, payload_of, first_wrong, wrong}

-- ---- the header in its parts

-- each part of a block's first ten bytes is the one due
pub record Headed (letters : List ℕ) (kind number used : ℕ) (block : List ℕ) : Type 0 where
  pub front : part 0 kind_at block ≡ letters
  pub fifth : part kind_at zero_at block ≡ kind ∷ []
  pub sixth : part zero_at number_at block ≡ 0 ∷ []
  pub numbered : part number_at used_at block ≡ le 2 number
  pub counted : part used_at header_length block ≡ le 2 used

-- four letters, one by one
data Four : List ℕ → Type 0 where
  each : (a b c d : ℕ) → Four (a ∷ b ∷ c ∷ d ∷ [])

four_letters : (l : List ℕ) → length l ≡ letters_length → Four l
four_letters (a ∷ b ∷ c ∷ d ∷ []) e = each a b c d
four_letters [] e = absurd (omega arith)
four_letters (a ∷ []) e = absurd (omega arith)
four_letters (a ∷ b ∷ []) e = absurd (omega arith)
four_letters (a ∷ b ∷ c ∷ []) e = absurd (omega arith)
four_letters (a ∷ b ∷ c ∷ d ∷ x ∷ l) e = absurd (omega arith)

-- those of the header are
pub header_headed : (letters : List ℕ) (kind number used : ℕ) → length letters ≡ letters_length → Headed letters kind number used (header letters kind number used)
unfolding header
header_headed letters kind number used e = go (four_letters letters e)
  where
    go : {l : List ℕ} → Four l → Headed l kind number used (header l kind number used)
    go (each a b c d) = record { front = refl; fifth = refl; sixth = refl; numbered = refl; counted = refl }

-- ten zeros with them put down are the header
pub header-put : (letters : List ℕ) (kind number used : ℕ) → length letters ≡ letters_length → {h₁ h₂ h₃ : List ℕ} → h₁ ≡ put (replicate header_length 0) 0 (take letters_length letters)
    → h₂ ≡ put (set h₁ kind_at kind) number_at (le 2 number) → h₃ ≡ put h₂ used_at (le 2 used) → h₃ ≡ header letters kind number used
unfolding header put
header-put letters kind number used e e₁ e₂ e₃ =
    e₃
    ∙ ap (λ (h : List ℕ). put h used_at (le 2 used)) (e₂ ∙ ap (λ (h : List ℕ). put (set h kind_at kind) number_at (le 2 number)) e₁)
    ∙ go (four_letters letters e)
  where
    go : {l : List ℕ} → Four l → put (put (set (put (replicate header_length 0) 0 (take letters_length l)) kind_at kind) number_at (le 2 number)) used_at (le 2 used) ≡ header l kind number used
    go (each a b c d) = refl

module _ {letters : List ℕ} {kind number used : ℕ} {block : List ℕ} where
  -- so are those of a block that starts with it
  pub headed_of : length letters ≡ letters_length → part 0 header_length block ≡ header letters kind number used → Headed letters kind number used block
  headed_of four e =
      let h = header_headed letters kind number used four in
      let at : (f t : ℕ) → f ≤ t → t ≤ header_length → part f t block ≡ part f t (header letters kind number used) =
      λ f t j k. sym (part-take f t header_length block j k) ∙ ap (part f t) e in
      record {
        front = at 0 kind_at (omega arith) (omega arith) ∙ h.front;
        fifth = at kind_at zero_at (omega arith) (omega arith) ∙ h.fifth;
        sixth = at zero_at number_at (omega arith) (omega arith) ∙ h.sixth;
        numbered = at number_at used_at (omega arith) (omega arith) ∙ h.numbered;
        counted = at used_at header_length (omega arith) (omega arith) ∙ h.counted;
      }

  -- and a block whose parts are starts with it
  pub headed_header : Headed letters kind number used block → part 0 header_length block ≡ header letters kind number used
  unfolding header
  headed_header h =
      rw (
        part_cut 0 used_at header_length block (omega arith) (omega arith),
        part_cut 0 number_at used_at block (omega arith) (omega arith),
        part_cut 0 zero_at number_at block (omega arith) (omega arith),
        part_cut 0 kind_at zero_at block (omega arith) (omega arith),
        h.front,
        h.fifth,
        h.sixth,
        h.numbered,
        h.counted,
      )
      (simp append_assoc)

-- ---- nothing is wrong

-- the header, the check and the zeros are those due
pub record Right (letters : List ℕ) (kind number used : ℕ) (block : List ℕ) : Type 0 where
  pub headed : Headed letters kind number used block
  pub sealed : part checked_length block_length block ≡ check (part 0 checked_length block)
  pub cleared : part (header_length + used) checked_length block ≡ replicate (most_payload - used) 0

none-wrong : (a b c d e : Bool) → first_wrong a b c d e ≡ 0 → (a ≡ true) × ((b ≡ true) × ((c ≡ true) × ((d ≡ true) × (e ≡ true))))
unfolding first_wrong
none-wrong false b c d e z = absurd (omega arith)
none-wrong true false c d e z = absurd (omega arith)
none-wrong true true false d e z = absurd (omega arith)
none-wrong true true true false e z = absurd (omega arith)
none-wrong true true true true false z = absurd (omega arith)
none-wrong true true true true true z = (refl, (refl, (refl, (refl, refl))))

module _ {letters : List ℕ} {kind number used : ℕ} {block : List ℕ} where
  -- so they are where nothing is wrong
  pub right_of : wrong letters kind number used block ≡ 0 → Right letters kind number used block
  unfolding wrong
  right_of z =
      let t = none-wrong _ _ _ _ _ z in
      let due = (and-eq-true_iff (same (part kind_at zero_at block) (kind ∷ [])) _).0 t.1.1.0 in
      let zeros = (and-eq-true_iff (same (part zero_at number_at block) (0 ∷ [])) _).0 t.1.1.1.1 in
      record {
        headed =
            record {
              front = same-eq _ _ t.0;
              fifth = same-eq _ _ due.0;
              sixth = same-eq _ _ zeros.0;
              numbered = same-eq _ _ due.1;
              counted = same-eq _ _ t.1.1.1.0;
            };
        sealed = same-eq _ _ t.1.0;
        cleared = same-eq _ _ zeros.1;
      }

  -- and nothing is wrong where they are
  right_none : Right letters kind number used block → wrong letters kind number used block ≡ 0
  unfolding wrong first_wrong
  right_none r =
      let h = r.headed in
      rw (
        eq-same h.front,
        eq-same r.sealed,
        eq-same h.fifth,
        eq-same h.sixth,
        eq-same h.numbered,
        eq-same h.counted,
        eq-same r.cleared,
      )

-- ---- written and read

module _ (letters : List ℕ) (kind number : ℕ) (four : length letters ≡ letters_length) where
  -- the header has ten bytes
  pub length-header : (used : ℕ) → length (header letters kind number used) ≡ header_length
  unfolding header
  length-header used = simp length-append (omega arith)

  module _ (payload : List ℕ) where
    -- the payload is found where it was put
    pub block_payload : payload_of (length payload) (block_of letters kind number payload) ≡ payload
    unfolding block_of body
    block_payload =
        let h = header letters kind number (length payload) in
        let z : List ℕ = replicate (most_payload - length payload) 0 in
        rw (append_assoc h (payload ++ z), append_assoc payload z)
        (part_middle h payload (z ++ check (body letters kind number payload)) header_length (header_length + length payload) (length-header (length payload)) (omega arith))

    module _ (small : length payload ≤ most_payload) where
      -- all but the check has 510
      pub length-body : length (body letters kind number payload) ≡ checked_length
      unfolding body
      length-body = simp (length-append, length-header (length payload), length-replicate) (omega arith)

      -- and the block 512
      pub length_block : length (block_of letters kind number payload) ≡ block_length
      unfolding block_of
      length_block = rw (length-append (body letters kind number payload), length-body)

      -- nothing is wrong with it
      pub block_right : wrong letters kind number (length payload) (block_of letters kind number payload) ≡ 0
      unfolding block_of body
      block_right =
          let u = length payload in
          let h = header letters kind number u in
          let z : List ℕ = replicate (most_payload - u) 0 in
          let b = body letters kind number payload in
          let s = check b in
          let e : b ++ s ≡ h ++ (payload ++ (z ++ s)) = rw (append_assoc h (payload ++ z), append_assoc payload z) in
          let g : b ++ s ≡ (h ++ payload) ++ (z ++ s) = e ∙ sym (append_assoc h payload (z ++ s)) in
          let n : length (h ++ payload) ≡ header_length + u = length-append h payload ∙ rw (length-header u) in
          let m : length z ≡ checked_length - (header_length + u) = length-replicate (most_payload - u) 0 ∙ omega arith in
          right_none
          (record {
            headed = headed_of four (rw e (take_at h (payload ++ (z ++ s)) header_length (length-header u)));
            sealed = rw (drop_at b s checked_length length-body, take_at b s checked_length length-body);
            cleared = rw g (part_middle (h ++ payload) z s (header_length + u) checked_length n m);
          })

-- a block with nothing wrong is the block of its used payload
pub block_is : (letters : List ℕ) (kind number used : ℕ) (block : List ℕ) → used ≤ most_payload → length block ≡ block_length
    → wrong letters kind number used block ≡ 0 → block_of letters kind number (payload_of used block) ≡ block
unfolding block_of body
block_is letters kind number used block small size z =
    let r = right_of z in
    let p = payload_of used block in
    let n : length p ≡ used = length_part header_length (header_length + used) block (omega arith) (omega arith) ∙ omega arith in
    let b : body letters kind number p ≡ part 0 checked_length block =
    rw (n, ← headed_header r.headed, ← r.cleared, ← part_cut header_length (header_length + used) checked_length block (omega arith) (omega arith))
    (sym (part_cut 0 header_length checked_length block (omega arith) (omega arith))) in
    rw (b, ← r.sealed) (sym (part_cut 0 checked_length block_length block (omega arith) (omega arith)) ∙ take_all block_length block (omega arith))
