-- Stores to a pile one after another. Assumes nothing.
use Rattle.std.proofs.Common.{◌≡◌, ℕ, ◌+◌, ◌<◌, List, [], ◌∷◌, ◌++◌, length, get_or, take, drop, Ok, Err, Result, refl, subst, arith}
use Rattle.std.proofs.lemmas.List.{drop_more, take-append-drop, take_more}
use Rattle.memory.specs.Model.{Model}
use Rattle.memory.specs.Stores.{word}
use Rattle.memory.specs.declared.fault.Fault.{Fault}
use Rattle.memory.specs.declared.word.Word.{Word}
use Rattle.layers.specs.Below.{Next}
use Rattle.layers.specs.StoredAll.{unless_outside}
use Rattle.piles.specs.EachLayer.{PileStores, PileStoresAll}
use Rattle.piles.specs.declared.pile.Pile.{Pile}

-- some words are stored, and then the others
stored-then : {M : Type 0} (f : M → Model) (ss rest : List Word) (p k q : Pile M) (r : Result Unit Fault) → PileStoresAll f p ss (Ok tt) k → PileStoresAll f k rest r q → PileStoresAll f p (ss ++ rest) r q
stored-then f [] rest p k q r h more = subst (λ x. PileStoresAll f x rest r q) h.1 more
stored-then f (s ∷ ss) rest p k q r h more = (h.0, h.1, h.2, go (unless_outside h.0) h.3 (λ n. stored-then f ss rest h.1 k q r n more))
  where
    go : (a : Result Unit Fault) → Next a (Ok tt) h.1 k (PileStoresAll f h.1 ss (Ok tt) k) → (PileStoresAll f h.1 ss (Ok tt) k → PileStoresAll f h.1 (ss ++ rest) r q) → Next a r h.1 q (PileStoresAll f h.1 (ss ++ rest) r q)
    go (Ok x) n then = then n
    go (Err e) n then = let no = n.0 in let z : ◌≡◌ {A = ℕ} 0 1 = cc in absurd (omega arith)

-- of words that are stored in their order, that at i is next
module _ {M : Type 0} (f : M → Model) (ws : List Word) (i : ℕ) (p k q : Pile M) (a : Result Unit Fault) (lt : i < length ws) (before : PileStoresAll f p (take i ws) (Ok tt) k) (one : PileStores f k (get_or ws i (word 0 0)).at (get_or ws i (word 0 0)).value a q) where
  pub one_more : (x : Unit) → Ok x ≡ unless_outside a → PileStoresAll f p (take (i + 1) ws) (Ok tt) q
  one_more x e =
      rw (take_more ws i (word 0 0) lt) (stored-then f (take i ws) (get_or ws i (word 0 0) ∷ []) p k q (Ok tt) before (a, q, one, subst (λ y. Next y (Ok tt) q q (PileStoresAll f q [] (Ok tt) q)) e (refl, refl)))

  pub one-cut : (x : Fault) → Err x ≡ unless_outside a → PileStoresAll f p ws (Err x) q
  one-cut x e =
      subst (λ ss. PileStoresAll f p ss (Err x) q) (take-append-drop i ws) (stored-then f (take i ws) (drop i ws) p k q (Err x) before (rw (drop_more ws i (word 0 0) lt) (a, q, one, subst (λ y. Next y (Err x) q q (PileStoresAll f q (drop (i + 1) ws) (Err x) q)) e (refl, refl))))
