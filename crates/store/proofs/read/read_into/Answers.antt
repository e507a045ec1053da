use Rattle.std.proofs.Common.{◌≡◌, ◌-◌, min, length, refl, inl, inr, arith, rules}
use Rattle.layout.specs.Table.{read}
use Rattle.image_check.proofs.Looking.{looked-more, looked-down}
use Rattle.store.proofs.Bytewise.{open-good, file-filled, file-done, file-cut, opens-quiet}
use Rattle.store.proofs.Calling.{known, refused-call}
use Rattle.store.proofs.read.read_into.Goals as goal

pub returns-in_err-file-clause-called : goal.returns-in_err-file-clause-called
returns-in_err-file-clause-called g c =
    let call = refused-call (read c.args.name c.args.offset (length c.args.buffer.now)) c.in_err-file.field-0.0 refl (λ formed none. simp (formed, none)) c.in_err-file.ensures.opens in search (rules, call)

pub returns-in_err-file-clause-quiet : goal.returns-in_err-file-clause-quiet
returns-in_err-file-clause-quiet g c = opens-quiet c.in_err-file.field-0.0 c.in_err-file.ensures.opens

pub load_bytes-requires-clause-up : goal.load_bytes-requires-clause-up
load_bytes-requires-clause-up g c = (known c.in_ok-file.ensures.opens).looked.up

pub load_bytes-requires-clause-file : goal.load_bytes-requires-clause-file
load_bytes-requires-clause-file g c = open-good c.args.name c.in_ok-file.file c.root-root.result (known c.in_ok-file.ensures.opens) c.root-root.ensures

pub returns-in_err-load_bytes-clause-called : goal.returns-in_err-load_bytes-clause-called
returns-in_err-load_bytes-clause-called g c =
    let h = c.in_err-load_bytes.ensures.reads in
    let call = file-cut (read c.args.name c.args.offset (length c.args.buffer.now)) c.in_err-load_bytes.field-0.0 h.1 refl (known c.in_ok-file.ensures.opens) h.0 in search (rules, call)

pub returns-in_err-load_bytes-clause-quiet : goal.returns-in_err-load_bytes-clause-quiet
returns-in_err-load_bytes-clause-quiet g c = let b = known c.in_ok-file.ensures.opens in inr (inr (looked-down b.looked c.in_err-load_bytes.ensures.reads.0))

pub returns : goal.returns
returns g c =
    let f = c.in_ok-file.file in
    let root = c.root-root.result in
    let at = c.root-root.ensures in
    let b = known c.in_ok-file.ensures.opens in
    let old = c.args.buffer.now in
    let given = c.min-given.result in
    let h = c.in_ok-load_bytes.ensures in
    let is : given ≡ min (length old) (root.length - c.args.offset) = omega arith in
    record {
      called = file-done c.args.name f root b at c.args.offset (length old) given is h.reads.0;
      quiet = inr (inl (looked-more b.looked h.reads.0));
      given = file-filled c.args.name f root b at c.args.offset c.from.result given old c.load_bytes.new.out c.clear_bytes.new.out is c.from.ensures h.reads.1 c.clear_bytes.ensures;
      lent = cc (h.lent, c.in_ok-file.ensures.lent);
    }
