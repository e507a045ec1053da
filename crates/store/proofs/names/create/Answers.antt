use Rattle.std.proofs.Common.{◌≡◌, ◌+◌, ◌*◌, ◌/◌, true, false, is_some, [], ◌∷◌, refl, arith, rules}
use Rattle.memory.specs.Stores.{word}
use Rattle.layout.specs.Table.{create}
use Rattle.image_check.specs.declared.refusal.Refusal.TheVariants.{NameTaken, TooManyFiles}
use Rattle.images.proofs.Naming.{clearing}
use Rattle.images.proofs.Slots.{slots-full}
use Rattle.store.proofs.Calling.{known, in-order, refused-call, table-refused, cut-call}
use Rattle.store.proofs.Finding.{found-none, found-taken, missing-none, missing-new, empty-slot, all_named, create-change}
use Rattle.store.proofs.Phases.{looked-made, done_more}
use Rattle.store.proofs.Phasing.{first-cut, last-phase}
use Rattle.store.proofs.names.create.Goals as goal

pub returns-in_err-directory-clause-created : goal.returns-in_err-directory-clause-created
returns-in_err-directory-clause-created g c =
    let call = refused-call (create c.args.name) c.in_err-directory.field-0.0 refl (λ formed none. absurd none) c.in_err-directory.ensures.opens in search (rules, call)

pub returns-then-is_some-clause-created : goal.returns-then-is_some-clause-created
returns-then-is_some-clause-created g c =
    let m = g.M.Memory.model c.args.memory.now in
    let name = c.args.name in
    let d = c.in_ok-directory.directory in
    let b = known c.in_ok-directory.ensures.opens in
    let some : is_some c.find_slot.result ≡ true = cc in
    let taken = found-taken m.seen d b.is c.name_word-word.result name c.name_word-word.ensures.bytes b.formed b.clean.sound.two c.find_slot.result c.find_slot.ensures some in
    let call = table-refused (create name) NameTaken refl b (simp (b.formed, taken.1)) in search (rules, call)

pub returns-in_default-clause-created : goal.returns-in_default-clause-created
returns-in_default-clause-created g c =
    let m = g.M.Memory.model c.args.memory.now in
    let name = c.args.name in
    let d = c.in_ok-directory.directory in
    let b = known c.in_ok-directory.ensures.opens in
    let x = c.name_word-word.result in
    let free : is_some c.find_slot.result ≡ false = cc in
    let none = missing-none m.seen d b.is x name c.name_word-word.ensures.bytes (found-none d x c.find_slot.result c.find_slot.ensures free) in
    let full = slots-full m.seen (all_named m.seen d b.is c.in_default.ensures) in
    let call = table-refused (create name) TooManyFiles refl b (simp (b.formed, none, full)) in search (rules, call)

pub returns-in_err-persist_word-clause-created : goal.returns-in_err-persist_word-clause-created
returns-in_err-persist_word-clause-created g c =
    let m = g.M.Memory.model c.args.memory.now in
    let name = c.args.name in
    let slot = c.in-Some.slot in
    let found = c.in-Some.ensures in
    let b = known c.in_ok-directory.ensures.opens in
    let h = c.in_err-persist_word.ensures in
    let first = clearing (m.count / 32) m.seen slot b.big b.clean found.0 (empty-slot m.seen c.in_ok-directory.directory b.is slot found.0 found.1) in
    let cut = first-cut (create name) (64 + (2 * slot + 1)) 0 b (omega (arith, found.0)) (omega arith) first.0 first.1 h.done.0 in
    let call = cut-call (create name) c.in_err-persist_word.field-0.0 h.done.1 refl b cut in search (rules, call)

pub returns-clause-created : goal.returns-clause-created
returns-clause-created g c =
    let m = g.M.Memory.model c.args.memory.now in
    let name = c.args.name in
    let x = c.name_word-word.result in
    let bytes = c.name_word-word.ensures.bytes in
    let d = c.in_ok-directory.directory in
    let slot = c.in-Some.slot in
    let found = c.in-Some.ensures in
    let zero = c.in_ok-persist_word.ensures.done in
    let b = known c.in_ok-directory.ensures.opens in
    let free : is_some c.find_slot.result ≡ false = cc in
    let new = missing-new m.seen d b.is x name bytes (found-none d x c.find_slot.result c.find_slot.ensures free) in
    let empty = empty-slot m.seen d b.is slot found.0 found.1 in
    let change = create-change (m.count / 32) m.seen slot b.big b.clean found.0 name x bytes b.formed empty new in
    last-phase (word (64 + (2 * slot + 1)) 0 ∷ []) (create name) (64 + 2 * slot) x b.suitable (in-order (create name) refl b.formed) change (done_more (looked-made b.looked) zero.0) (λ _. zero.1) _ c.persist_word-2.result c.persist_word-2.ensures.done
