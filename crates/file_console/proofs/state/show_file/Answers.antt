use Rattle.std.proofs.Common.{◌≡◌, ℕ, List, [], ◌∷◌, length, take, Ok, refl, ◌∙◌, subst, arith}
use Rattle.std.proofs.lemmas.List.{length-take-le}
use Rattle.layout.specs.Image.{table_of}
use Rattle.layout.specs.Table.{done, read}
use Rattle.store.specs.Calls.{FileCall}
use Rattle.file_console.proofs.Showing.{given-front, shown-front}
use Rattle.file_console.proofs.state.show_file.Goals as goal

pub overflow_cast-result : goal.overflow_cast-result
overflow_cast-result g c =
    omega (arith, c.requires, given-front c.args.name c.args.buffer.now c.args.offset c.from.result c.in_ok-given.given (omega arith) c.in_ok-given.ensures.called)

pub invariant_of-result : goal.invariant_of-result
invariant_of-result g c =
    record {
      counted = λ _. refl;
      few = omega (arith, c.requires, given-front c.args.name c.args.buffer.now c.args.offset c.from.result c.in_ok-given.given (omega arith) c.in_ok-given.ensures.called);
    }

pub returns-clause-reads : goal.returns-clause-reads
returns-clause-reads g c =
    let m = g.M.Memory.model c.args.memory.now in
    let n = g.M.Memory.model c.read.new.memory in
    let name = c.args.name in
    let offset = c.args.offset in
    let count = c.args.count in
    let given = c.in_ok-given.given in
    let h = c.in_ok-given.ensures in
    let old : List ℕ = take c.from.result c.args.buffer.now in
    let asked : length old ≡ count = length-take-le c.from.result c.args.buffer.now (omega arith) ∙ c.from.ensures in
    let called = subst (λ k. FileCall m (read name offset k) (done (given ∷ [])) n) asked h.called in
    let few = given-front name c.args.buffer.now offset c.from.result given (omega arith) h.called in
    (Ok given, called, h.quiet, refl, shown-front (table_of m.seen) name offset count (length old) given c.read.new.buffer _ asked (omega (arith, c.read.auto.buffer)) h.filled)
