use Rattle.std.proofs.Common.{rules}
use Rattle.store.proofs.Phases.{store-done, store-cut}
use Rattle.store.proofs.phase.store_word.Goals as goal

pub returns-in_err-store-clause-made : goal.returns-in_err-store-clause-made
returns-in_err-store-clause-made g c = let cut = store-cut c.args.at c.args.value c.in_err-store.field-0.0 c.requires c.in_err-store.ensures.gives in search (rules, cut)

pub returns-clause-made : goal.returns-clause-made
returns-clause-made g c = store-done c.args.at c.args.value c.in_ok-store.ensures.gives
