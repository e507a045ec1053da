use Rattle.std.proofs.Common.{◌≡◌, refl, rules}
use Rattle.layout.specs.declared.log.LogState.TheVariants.{Free}
use Rattle.images.proofs.Working.{cases-right}
use Rattle.image_check.specs.Directory.{slot_at}
use Rattle.store.proofs.Refusing.{begun, refuses, cut-before, free-done, undoable-later, root-later, state-inside, cut-taking, cut-freeing, all-done}
use Rattle.store.proofs.recover.recover.Goals as goal

pub returns-in_err-survey : goal.returns-in_err-survey
returns-in_err-survey g c = let refused = refuses c.in_err-survey.field-0.0 c.in_err-survey.ensures.surveys in record { recovers = search (rules, refused); cases = cases-right; lent = search rules }

pub returns-in_err-entry : goal.returns-in_err-entry
returns-in_err-entry g c = let cut = cut-before c.in_ok-survey.ensures.surveys c.in_err-entry.ensures.reads.0 in record { recovers = search (rules, cut); cases = cases-right; lent = search rules }

pub returns-then-eq : goal.returns-then-eq
returns-then-eq g c =
    let b = begun c.in_ok-survey.ensures.surveys c.in_ok-entry.ensures.reads in
    record { recovers = free-done _ c.in_ok-entry.entry b (search rules); cases = cases-right; lent = search rules }

pub take_back-requires : goal.take_back-requires
take_back-requires g c =
    let s = c.in_ok-survey.survey in
    let e = c.in_ok-entry.entry in
    let b = begun c.in_ok-survey.ensures.surveys c.in_ok-entry.ensures.reads in
    let busy : e.state ≡ Free → ⊥ = search rules in
    record { entry = undoable-later s e b busy; root = root-later s e b busy c.from.result (slot_at s.directory c.from.result).root c.from.ensures refl }

pub returns-in_err-put : goal.returns-in_err-put
returns-in_err-put g c =
    let b = begun c.in_ok-survey.ensures.surveys c.in_ok-entry.ensures.reads in
    let cut = cut-taking _ c.in_ok-entry.entry b (search rules) c.in_err-put.ensures.taken.0 in
    record { recovers = search (rules, cut); cases = cases-right; lent = search rules }

pub persist_word-requires : goal.persist_word-requires
persist_word-requires g c =
    let b = begun c.in_ok-survey.ensures.surveys c.in_ok-entry.ensures.reads in
    state-inside _ c.in_ok-entry.entry b (search rules) c.in_ok-put.put c.in_ok-put.ensures.taken

pub returns-in_err-persist_word : goal.returns-in_err-persist_word
returns-in_err-persist_word g c =
    let b = begun c.in_ok-survey.ensures.surveys c.in_ok-entry.ensures.reads in
    let freed = rw c.from-2.ensures at c.in_err-persist_word.ensures.done.0 in
    let cut = cut-freeing _ c.in_ok-entry.entry b (search rules) c.in_ok-put.put c.in_ok-put.ensures.taken freed in
    record { recovers = search (rules, cut); cases = cases-right; lent = search rules }

pub returns : goal.returns
returns g c =
    let b = begun c.in_ok-survey.ensures.surveys c.in_ok-entry.ensures.reads in
    let freed = rw c.from-2.ensures at c.in_ok-persist_word.ensures.done in
    record { recovers = all-done _ c.in_ok-entry.entry b (search rules) c.in_ok-put.put c.in_ok-put.ensures.taken freed; cases = cases-right; lent = search rules }
