use Rattle.std.proofs.Common.{refl}
use Rattle.store.proofs.Calling.{known}
use Rattle.store.proofs.Opening.{file-none, file-some}
use Rattle.store.proofs.open.open_file.Goals as goal

pub returns-in_default-clause-opens : goal.returns-in_default-clause-opens
returns-in_default-clause-opens g c = file-none _ _ c.name_word.ensures.bytes (known c.in_ok-directory.ensures.opens) c.in_default.ensures

pub returns-clause-opens : goal.returns-clause-opens
returns-clause-opens g c = file-some _ _ c.name_word.ensures.bytes (known c.in_ok-directory.ensures.opens) _ refl c.in-Some.ensures.1
