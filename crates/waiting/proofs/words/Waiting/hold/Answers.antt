use Rattle.std.proofs.Common.{◌≡◌, length, sym, arith, rules}
use Rattle.waiting.proofs.Newest.{hold-replaced, hold-shifted}
use Rattle.waiting.proofs.words.Waiting.hold.Goals as goal

pub returns-in-Some : goal.returns-in-Some
returns-in-Some c =
    hold-replaced c.args.self.now.free c.args.self.now.words c.args.at c.args.value c.in-Some.k (sym c.in-Some.ensures.newest)

pub returns-in-None : goal.returns-in-None
returns-in-None c =
    let eight : length c.args.self.now.words ≡ 8 = search rules in
    hold-shifted c.args.self.now.free c.min-self.result c.args.self.now.words c.rotate_left.new.self c.args.at c.args.value (sym c.in-None.ensures.newest) eight c.rotate_left.ensures.after (omega arith)
