-- Texts written into a buffer one after another. Assumes nothing.
use Rattle.std.proofs.Common.{◌≡◌, ℕ, ◌+◌, ◌*◌, ◌<◌, ◌≤◌, Bool, true, false, cond, ltb, List, [], ◌∷◌, ◌++◌, length, take, drop, Some, None, decimal, Option, refl, sym, ap, ◌∙◌, inl, inr, add_assoc, arith}
use Rattle.std.proofs.lemmas.List.{append_assoc, length-append, length-take-le, length-drop, take_at, drop_at, drop-drop}
use Rattle.std.proofs.lemmas.Bool.{cases_lt}
use Rattle.std.proofs.lemmas.Bool.Decides.{nat_tests}
use borrow.Rule.Slice.PartMut.{put_mid}
use Rattle.console.specs.Lines.{Wrote, answer_line, carried_part, hex, shown_part, written}
use Rattle.console.proofs.Lengths.{length-hex, length-line, shown-some}

-- a text copied into the middle of a buffer
written-copied : (out : List ℕ) (at : ℕ) (s : List ℕ) → put_mid at (length s) out s ≡ written out at s
written-copied out at s = ap (λ x. take at out ++ (s ++ x)) (drop-drop (length s) at out)

front : (out : List ℕ) (at : ℕ) (s : List ℕ) → at ≤ length out → length (take at out ++ s) ≡ at + length s
front out at s le = length-append (take at out) s ∙ ap (λ n. n + length s) (length-take-le at out le)

pub length-written : (out : List ℕ) (at : ℕ) (s : List ℕ) → at + length s ≤ length out → length (written out at s) ≡ length out
length-written out at s le =
    let a = length-append (take at out) (s ++ drop (at + length s) out) in
    let b = length-append s (drop (at + length s) out) in
    let c = length-drop (at + length s) out in
    let d = length-take-le at out (omega arith) in
    omega (arith, a, b, c, d)

-- a text after another
written-append : (out : List ℕ) (at n : ℕ) (s t : List ℕ) → n ≡ at + length s → at + length s + length t ≤ length out → written (written out at s) n t ≡ written out at (s ++ t)
written-append out at n s t e le = ap (λ k. written (written out at s) k t) e ∙ joined
  where
    p : List ℕ
    p = take at out ++ s

    q : List ℕ
    q = drop (at + length s) out

    split : written out at s ≡ p ++ q
    split = sym (append_assoc (take at out) s q)

    long : length p ≡ at + length s
    long = front out at s (omega arith)

    rest : drop (at + length s + length t) (p ++ q) ≡ drop (at + length (s ++ t)) out
    rest =
        sym (drop-drop (length t) (at + length s) (p ++ q)) ∙ ap (drop (length t)) (drop_at p q (at + length s) long) ∙ drop-drop (length t) (at + length s) out
        ∙ ap (λ k. drop k out) (add_assoc at (length s) (length t) ∙ ap (λ k. at + k) (sym (length-append s t)))

    joined : written (written out at s) (at + length s) t ≡ written out at (s ++ t)
    joined =
        ap (λ x. written x (at + length s) t) split
        ∙ ap (λ x. x ++ (t ++ drop (at + length s + length t) (p ++ q))) (take_at p q (at + length s) long)
        ∙ ap (λ x. p ++ (t ++ x)) rest
        ∙ append_assoc (take at out) s (t ++ drop (at + length (s ++ t)) out)
        ∙ ap (λ x. take at out ++ x) (sym (append_assoc s t (drop (at + length (s ++ t)) out)))

-- a text t, written into x at p, after a text s in out
pub then-written : (out x y : List ℕ) (at p q : ℕ) (s t : List ℕ) → p ≡ at + length s → x ≡ written out at s → q ≡ p + length t → y ≡ written x p t
    → at + length s + length t ≤ length out → (q ≡ at + length (s ++ t)) × (y ≡ written out at (s ++ t))
then-written out x y at p q s t ep ex eq ey room =
    (omega (arith, length-append s t), ey ∙ ap (λ o. written o p t) ex ∙ written-append out at p s t ep room)

-- a line, part by part
pub line-written : (out a b c d e digits : List ℕ) (letter p q r s t : ℕ) (number : ℕ) (carried : Option ℕ) (bs : List ℕ) → digits ≡ decimal number → length (answer_line letter number carried bs) ≤ length out
    → p ≡ 2 → a ≡ written out 0 (letter ∷ 32 ∷ []) → q ≡ p + length digits → b ≡ written a p digits
    → r ≡ q + length (carried_part carried) → c ≡ written b q (carried_part carried)
    → s ≡ r + length (shown_part bs) → d ≡ written c r (shown_part bs) → t ≡ s + 1 → e ≡ written d s (10 ∷ [])
    → (t ≡ length (answer_line letter number carried bs)) × (e ≡ written out 0 (answer_line letter number carried bs))
line-written out a b c d e digits letter p q r s t number carried bs en room ep ea eq eb er ec es ed et ee =
    let head : List ℕ = letter ∷ 32 ∷ digits in
    let value : List ℕ = carried_part carried in
    let bytes : List ℕ = shown_part bs in
    let all = length-line letter number carried bs in
    let same_length : length digits ≡ length (decimal number) = ap length en in
    let l4 = length-append head value in
    let l5 = length-append (head ++ value) bytes in
    let two = then-written out a b 0 p q (letter ∷ 32 ∷ []) digits ep ea eq eb (omega arith) in
    let three = then-written out b c 0 q r head value two.0 two.1 er ec (omega arith) in
    let four = then-written out c d 0 r s (head ++ value) bytes three.0 three.1 es ed (omega arith) in
    let five = then-written out d e 0 s t ((head ++ value) ++ bytes) (10 ∷ []) four.0 four.1 et ee (omega arith) in
    let same : ((head ++ value) ++ bytes) ++ (10 ∷ []) ≡ answer_line letter number carried bs =
    append_assoc (head ++ value) bytes (10 ∷ []) ∙ append_assoc head value (bytes ++ (10 ∷ []))
    ∙ ap (λ x. letter ∷ 32 ∷ (x ++ (value ++ (bytes ++ (10 ∷ []))))) en in
    (omega (arith, ap length same), five.1 ∙ ap (written out 0) same)

-- the digits of bytes, copied in after a space
pub shown-written : (out x digits bs : List ℕ) (at next k : ℕ) → 0 < length bs → at + length (shown_part bs) ≤ length out
    → next ≡ at + 1 → x ≡ written out at (32 ∷ []) → k ≡ 2 * length bs → digits ≡ hex bs → put_mid next k x digits ≡ written out at (shown_part bs)
shown-written out x digits bs at next k some room en ex ek ed =
    let long : k ≡ length (hex bs) = omega (arith, length-hex bs) in
    let all = then-written out x (written x next (hex bs)) at next (next + length (hex bs)) (32 ∷ []) (hex bs) en ex refl refl (omega (arith, ap length (shown-some bs some))) in
    ap (λ n. put_mid next n x digits) long ∙ ap (put_mid next (length (hex bs)) x) ed ∙ written-copied x next (hex bs) ∙ all.1 ∙ ap (written out at) (sym (shown-some bs some))

-- a text that any buffer of 72 bytes has room for
pub wrote : (out text out' : List ℕ) (r : Option ℕ) → length text ≤ 72 → r ≡ cond (ltb (length out) 72) None (Some (length text)) → out' ≡ cond (ltb (length out) 72) out (written out 0 text)
    → Wrote out text r out'
wrote out text out' r few value after = elim (cases_lt (length out) 72) [
  | inl less ↦
      let e : ltb (length out) 72 ≡ true = grind (arith, nat_tests) in
      inr (value ∙ ap (λ (b : Bool). cond b None (Some (length text))) e, less, after ∙ ap (λ (b : Bool). cond b out (written out 0 text)) e)
  | inr room ↦
      let e : ltb (length out) 72 ≡ false = grind (arith, nat_tests) in
      inl (value ∙ ap (λ (b : Bool). cond b None (Some (length text))) e, omega arith, after ∙ ap (λ (b : Bool). cond b out (written out 0 text)) e)
]
