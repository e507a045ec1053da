use Rattle.std.proofs.Common.{◌≡◌, ◌+◌, ◌*◌, true, false, is_some, sym, refl, ◌∙◌, arith, rules}
use Rattle.layout.specs.Table.{rename}
use Rattle.image_check.specs.declared.refusal.Refusal.TheVariants.{NameTaken}
use Rattle.store.proofs.Calling.{known, refused-call, table-refused, place_inside}
use Rattle.store.proofs.Finding.{found-none, found-taken, missing-new, found-bytes, rename-change, rename-named}
use Rattle.store.proofs.Phasing.{only-phase}
use Rattle.store.proofs.names.rename.Goals as goal

pub returns-in_err-file-clause-renamed : goal.returns-in_err-file-clause-renamed
returns-in_err-file-clause-renamed g c =
    let name = c.args.name in
    let new = c.args.new in
    let formed' = sym c.is_well_formed.ensures ∙ c.if-not-is_well_formed.false in
    let call = refused-call (rename name new) c.in_err-file.field-0.0 (rename-named name new formed') (λ formed none. simp (formed, formed', none)) c.in_err-file.ensures.opens in search (rules, call)

pub returns-then-is_some-clause-renamed : goal.returns-then-is_some-clause-renamed
returns-then-is_some-clause-renamed g c =
    let m = g.M.Memory.model c.args.memory.now in
    let name = c.args.name in
    let new = c.args.new in
    let f = c.in_ok-file.file in
    let formed' = sym c.is_well_formed.ensures ∙ c.if-not-is_well_formed.false in
    let b = known c.in_ok-file.ensures.opens in
    let some : is_some c.find_slot.result ≡ true = cc in
    let taken = found-taken m.seen f.directory b.is.lists c.name_word-word.result new c.name_word-word.ensures.bytes formed' b.clean.sound.two c.find_slot.result c.find_slot.ensures some in
    let call = table-refused (rename name new) NameTaken (rename-named name new formed') b (simp (b.formed, formed', found-bytes name f b, taken.1)) in search (rules, call)

pub persist_word-requires : goal.persist_word-requires
persist_word-requires g c = place_inside _ (known c.in_ok-file.ensures.opens) (omega (arith, c.in_ok-file.file.inside))

pub returns-clause-renamed : goal.returns-clause-renamed
returns-clause-renamed g c =
    let m = g.M.Memory.model c.args.memory.now in
    let name = c.args.name in
    let new = c.args.new in
    let x = c.name_word-word.result in
    let bytes = c.name_word-word.ensures.bytes in
    let f = c.in_ok-file.file in
    let formed' = sym c.is_well_formed.ensures ∙ c.if-not-is_well_formed.false in
    let b = known c.in_ok-file.ensures.opens in
    let none : is_some c.find_slot.result ≡ false = cc in
    let free = missing-new m.seen f.directory b.is.lists x new bytes (found-none f.directory x c.find_slot.result c.find_slot.ensures none) in
    only-phase (rename name new) (64 + 2 * f.slot) x (rename-named name new formed') b (rename-change name f b new x formed' bytes free) _ c.persist_word.result _ _ c.name_place.ensures refl c.persist_word.ensures.done
