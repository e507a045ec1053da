use Rattle.std.proofs.Common.{◌+◌, ◌*◌, refl, rules}
use Rattle.layout.specs.Table.{remove}
use Rattle.store.proofs.Calling.{known, refused-call}
use Rattle.store.proofs.Finding.{remove-change}
use Rattle.store.proofs.Phasing.{only-phase}
use Rattle.store.proofs.names.remove.Goals as goal

pub returns-in_err-file-clause-removed : goal.returns-in_err-file-clause-removed
returns-in_err-file-clause-removed g c =
    let call = refused-call (remove c.args.name) c.in_err-file.field-0.0 refl (λ formed none. simp (formed, none)) c.in_err-file.ensures.opens in search (rules, call)

pub returns-clause-removed : goal.returns-clause-removed
returns-clause-removed g c =
    let f = c.in_ok-file.file in
    let b = known c.in_ok-file.ensures.opens in
    only-phase (remove c.args.name) (64 + 2 * f.slot) 0 refl b (remove-change c.args.name f b) _ c.persist_word.result _ _ c.name_place.ensures refl c.persist_word.ensures.done
