use Rattle.std.proofs.Common.{◌≡◌, ◌∷◌, sym, ◌∙◌, subst, inl, inr, arith}
use Rattle.std.specs.List.{range_with_len, flat_map}
use Rattle.layout.specs.Image.{slot_blocks, map_of, file_blocks}
use Rattle.image_check.specs.Check.{HasOnce}
use Rattle.image_check.specs.Directory.{slot_at}
use Rattle.image_check.proofs.Blocks.{held-next, held-same, once-before}
use Rattle.image_check.proofs.Looking.{tries-part}
use Rattle.image_check.proofs.Mapping.{slot-file, slot-none}
use Rattle.image_check.proofs.files.Files.used_blocks.Given as given
use Rattle.image_check.proofs.files.Files.used_blocks.Goals as goal
use Rattle.image_check.proofs.files.Files.used_blocks.Goals.{In-Some}

pub loop-slot-preserved-in_default : goal.loop-slot-preserved-in_default
loop-slot-preserved-in_default g c =
    let s = c.loop-slot.slot-index in
    let slot = slot_at c.args.self.now.directory s in
    let lists = c.requires.1.1.0.lists in
    let none = slot-none g.first.seen s slot.name slot.root (lists.names s c.loop-slot-test.true) (lists.roots s c.loop-slot-test.true) (inl c.in_default.ensures) in
    (c.loop-slot.invariant.0, c.loop-slot.invariant.1, held-same (slot_blocks g.first.seen) s c.loop-slot.set none c.loop-slot.invariant.2)

pub loop-slot-preserved-then-file-eq0 : goal.loop-slot-preserved-then-file-eq0
loop-slot-preserved-then-file-eq0 g c =
    let s = c.loop-slot.slot-index in
    let slot = slot_at c.args.self.now.directory s in
    let lists = c.requires.1.1.0.lists in
    let none = slot-none g.first.seen s slot.name slot.root (lists.names s c.loop-slot-test.true) (lists.roots s c.loop-slot-test.true) (inr (sym c.in-Some.ensures.1 ∙ c.if-file-eq0.true)) in
    (c.loop-slot.invariant.0, c.loop-slot.invariant.1, held-same (slot_blocks g.first.seen) s c.loop-slot.set none c.loop-slot.invariant.2)

-- the blocks of a slot that has a file
here : (g : given.Over) (c : In-Some g) → (c.in-Some.file.root ≡ 0 → ⊥) → slot_blocks g.first.seen c.loop-slot.slot-index ≡ map_of c.in-Some.file.root ∷ file_blocks g.first.seen c.in-Some.file.root
here g c some =
    let s = c.loop-slot.slot-index in
    let slot = slot_at c.args.self.now.directory s in
    let lists = c.requires.1.1.0.lists in
    let known = c.in-Some.ensures in
    slot-file g.first.seen s slot.name c.in-Some.file.root (lists.names s c.loop-slot-test.true) (known.1 ∙ lists.roots s c.loop-slot-test.true) known.0 some

pub returns-in_err-add_blocks-clause-tries : goal.returns-in_err-add_blocks-clause-tries
returns-in_err-add_blocks-clause-tries g c =
    let s = c.loop-slot.slot-index in
    let f = slot_blocks g.first.seen in
    let before = flat_map f (range_with_len 0 s) in
    let blocks = here g (goal.at.returns-in_err-add_blocks-clause-tries g c).In-Some c.if-file-eq0.false in
    let r = c.from_residual in
    tries-part g.first (g.M.Memory.model c.add_blocks.new.memory) _ _ _ _ r.result r.ensures.1 _ (c.in_err-add_blocks.ensures.tries before c.loop-slot.invariant.2)
    (once-before f s 16 (map_of c.in-Some.file.root ∷ file_blocks g.first.seen c.in-Some.file.root) c.loop-slot-test.true blocks)

pub loop-slot-preserved : goal.loop-slot-preserved
loop-slot-preserved g c =
    let s = c.loop-slot.slot-index in
    let f = slot_blocks g.first.seen in
    let blocks = here g (goal.at.loop-slot-preserved g c).In-Some c.if-file-eq0.false in
    let h = c.in_ok-add_blocks.ensures in
    let added = h.tries (flat_map f (range_with_len 0 s)) c.loop-slot.invariant.2 in
    (added.0, h.lent ∙ c.loop-slot.invariant.1, held-next f s (map_of c.in-Some.file.root ∷ file_blocks g.first.seen c.in-Some.file.root) c.add_blocks.new.set blocks (added.2, added.1))

pub returns-clause-tries : goal.returns-clause-tries
returns-clause-tries g c =
    let end : c.loop-slot.slot-index ≡ 16 = omega arith in
    let all = subst (λ s. HasOnce c.loop-slot.set (flat_map (slot_blocks g.first.seen) (range_with_len 0 s))) end c.loop-slot.invariant.2 in
    (c.loop-slot.invariant.0, all.1, all.0)
