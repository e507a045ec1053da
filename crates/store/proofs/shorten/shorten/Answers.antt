use Rattle.std.proofs.Common.{◌≡◌, ◌+◌, ◌*◌, ◌%◌, ◌^◌, ◌<◌, ◌≤◌, cond, eqb, sym, refl, ap, ◌∙◌, subst, arith, rules}
use Rattle.layout.specs.Image.{length_of, root_word, short_root}
use Rattle.layout.specs.Table.{shorten}
use Rattle.std.proofs.lemmas.Bool.{lt-leb}
use Rattle.images.proofs.Slots.{bytes-length}
use Rattle.image_check.specs.declared.refusal.Refusal.TheVariants.{TooLong}
use Rattle.store.proofs.Calling.{known, refused-call, table-refused, place_inside}
use Rattle.store.proofs.Finding.{found-bytes, shorten-change}
use Rattle.store.proofs.Phasing.{only-phase}
use Rattle.store.proofs.shorten.shorten.Goals as goal

pub returns-in_err-file-clause-shortened : goal.returns-in_err-file-clause-shortened
returns-in_err-file-clause-shortened g c =
    let name = c.args.name in
    let len = c.args.length in
    let call = refused-call (shorten name len) c.in_err-file.field-0.0 refl (λ formed none. simp (formed, none)) c.in_err-file.ensures.opens in search (rules, call)

pub returns-then-length-root-clause-shortened : goal.returns-then-length-root-clause-shortened
returns-then-length-root-clause-shortened g c =
    let m = g.M.Memory.model c.args.memory.now in
    let name = c.args.name in
    let len = c.args.length in
    let f = c.in_ok-file.file in
    let b = known c.in_ok-file.ensures.opens in
    let long = c.root-root.ensures.length ∙ ap length_of (b.is.lists.roots f.slot f.inside) ∙ sym (bytes-length m.seen (root_word m.seen f.slot)) in
    let call = table-refused (shorten name len) TooLong refl b (simp (b.formed, found-bytes name f b, lt-leb len _ (subst (λ x. x < len) long c.if-length-root.true))) in search (rules, call)

pub persist_word-requires : goal.persist_word-requires
persist_word-requires g c = place_inside _ (known c.in_ok-file.ensures.opens) (omega (arith, c.in_ok-file.file.inside))

pub returns-clause-shortened : goal.returns-clause-shortened
returns-clause-shortened g c =
    let m = g.M.Memory.model c.args.memory.now in
    let len = c.args.length in
    let f = c.in_ok-file.file in
    let b = known c.in_ok-file.ensures.opens in
    let root = root_word m.seen f.slot in
    let is = b.is.lists.roots f.slot f.inside in
    let less : len ≤ length_of root = subst (λ x. len ≤ x) (c.root-root.ensures.length ∙ ap length_of is) c.if-length-root.false in
    let value : c.short_root.result ≡ short_root root len = c.short_root.ensures ∙ ap (λ x. cond (eqb len 0) 0 (x + 2 ^ 32 * len)) (c.root-root.ensures.map ∙ ap (λ x. x % 2 ^ 16) is) in
    only-phase (shorten c.args.name len) (64 + (2 * f.slot + 1)) (short_root root len) refl b (shorten-change c.args.name f b len less) _ c.persist_word.result _ _ c.root_place.ensures value c.persist_word.ensures.done
