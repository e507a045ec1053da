-- What a file call comes to, once the image is checked and its stores are made. Assumes nothing.
use Rattle.std.proofs.Common.{◌≡◌, ℕ, ◌*◌, ◌/◌, ◌<◌, ◌≤◌, Bool, true, false, cond, List, [], Some, None, Ok, Err, Option, Result, sym, refl, ap, ◌∙◌, subst, inl, inr, ⊎_elim, arith}
use Rattle.std.proofs.lemmas.Bool.{cases_Bool}
use Rattle.memory.specs.Model.{Model}
use Rattle.memory.proofs.Putting.{up-down}
use Rattle.layout.specs.Image.{table_of}
use Rattle.layout.specs.Log.{Clean, FirstBusy}
use Rattle.layout.specs.Names.{well_formed}
use Rattle.layout.specs.Table.{Ask, Reply, refuse, early, on, answer}
use Rattle.images.proofs.Holding.{clean-leads}
use Rattle.image_check.specs.Answers.{RefusedBy, rule_number}
use Rattle.image_check.specs.Reading.{Looked, LookedDown}
use Rattle.image_check.specs.Size.{suits}
use Rattle.image_check.specs.declared.refusal.Refusal.{Refusal}
use Rattle.image_check.specs.declared.refusal.Rule.{Rule}
use Rattle.image_check.specs.declared.refusal.Refusal.TheVariants.{PowerLost, BadImage, BadName, NoFile, NameTaken, TooManyFiles, TooLong, WrongSize}
use Rattle.image_check.proofs.Sizing.{size-blocks}
use Rattle.store.specs.Calls.{refused_reply, CallCut, Took, FileCall, SlotCall, Opens}
use Rattle.store.proofs.Phases.{cut-looked}
use Rattle.store.proofs.Recovery.{torn, torn-none}

-- a call whose arguments are in order, on a memory whose size suits
pub taken-call : {m n : Model} (a : Ask) (r : Reply) → early a ≡ None → suits m.count ≡ true → Took (m.count / 32) m a r n → FileCall m a r n
taken-call {m} {n} a r none t took = record {
  wrong = λ x e. absurd (cc);
  size = λ _ f. absurd (up-down (suits m.count) t f);
  taken = λ _ _. took;
}

-- a call that first asks for a well-formed name
abbrev pub Named : Ask → Type 0
Named a = early a ≡ cond (well_formed (on a)) None (Some (refuse 3))

pub in-order : (a : Ask) → Named a → well_formed (on a) ≡ true → early a ≡ None
in-order a asks formed = asks ∙ ap (λ (x : Bool). cond {A = Option Reply} x None (Some (refuse 3))) formed

-- what is known of an image that is opened for a call on a name
pub record Known {X : Type 0} (m k : Model) (name : List ℕ) (P : X → Type 0) (x : X) : Type 0 where
  pub formed : well_formed name ≡ true
  pub suitable : suits m.count ≡ true
  pub big : 6 ≤ m.count / 32
  pub size : 32 * (m.count / 32) ≤ m.count
  pub looked : Looked m k
  pub clean : Clean (m.count / 32) m.seen
  pub is : P x

pub known : {X : Type 0} {m k : Model} {name : List ℕ} {P : X → Type 0} {missing : Type 0} {x : X} → Opens m name P missing (Ok x) k → Known m k name P x
known {X} {m} {k} {name} {P} {missing} {x} opens =
    let formed = ⊎_elim (λ t. t) (λ f. absurd (apart (opens.wrong f).0)) (cases_Bool (well_formed name)) in
    let t = ⊎_elim (λ t. t) (λ f. absurd (apart (opens.size formed f).0)) (cases_Bool (suits m.count)) in
    let b = size-blocks m.count (m.count / 32) t refl in
    let h = opens.taken formed t in
    record { formed = formed; suitable = t; big = b.0; size = b.2; looked = h.0; clean = h.1; is = h.2 }
  where
    apart : {e : Refusal} → ◌≡◌ {A = Result X Refusal} (Ok x) (Err e) → ⊥
    apart e = cc

-- a place in the directory lies inside the memory
pub place_inside : {X : Type 0} {m k : Model} {name : List ℕ} {P : X → Type 0} {x : X} (i : ℕ) → Known m k name P x → i < 96 → i < k.count
place_inside i b lt = omega (arith, b.looked.fewer.same_count, b.big, b.size)

-- a call that is cut off before it stores anything
pub looked-cut : (blocks : ℕ) (m n : Model) (a : Ask) → 6 ≤ blocks → 32 * blocks ≤ m.count → LookedDown m n → CallCut blocks m a n
looked-cut blocks m n a big size down = record {
  down = down.down.down;
  count = down.down.fewer.same_count;
  still = down.still;
  leads = λ settled clean t holds v drawn. inl (clean-leads blocks m.seen v t big (torn-none blocks m big size v (torn blocks m big size [] v settled (cut-looked [] down) drawn)) clean holds);
}

-- no refusal has the number of done
pub refused-some : (e : Refusal) → (refused_reply e).number ≡ 0 → ⊥
refused-some PowerLost h = omega arith
refused-some (BadImage k) h = omega arith
refused-some BadName h = omega arith
refused-some NoFile h = omega arith
refused-some NameTaken h = omega arith
refused-some TooManyFiles h = omega arith
refused-some TooLong h = omega arith
refused-some WrongSize h = omega arith

-- what a refusal of the image comes to, from the two that there are
pub refused-by : {lost : Type 0} (bad : ℕ → Type 0) (P : Refusal → Type 0) → (lost → P PowerLost) → ((rule : Rule) → bad (rule_number rule) → P (BadImage rule)) → (e : Refusal) → RefusedBy e lost bad → P e
refused-by bad P f g PowerLost h = f h
refused-by bad P f g (BadImage rule) h = g rule h
refused-by bad P f g BadName h = absurd h
refused-by bad P f g NoFile h = absurd h
refused-by bad P f g NameTaken h = absurd h
refused-by bad P f g TooManyFiles h = absurd h
refused-by bad P f g TooLong h = absurd h
refused-by bad P f g WrongSize h = absurd h

took-refused : (blocks : ℕ) (m n : Model) (a : Ask) (e : Refusal) → 6 ≤ blocks → 32 * blocks ≤ m.count → RefusedBy e (LookedDown m n) (λ k. Looked m n × FirstBusy k blocks m.seen) → Took blocks m a (refused_reply e) n
took-refused blocks m n a e big size h =
    refused-by _ (λ y. Took blocks m a (refused_reply y) n) (λ down. inl (refl, looked-cut blocks m n a big size down)) (λ rule bad. inr (inl (rule_number rule, refl, bad.0, bad.1))) e h

-- the table refuses the call
answered-refused : (blocks : ℕ) (m n : Model) (a : Ask) (e : Refusal) → Looked m n → Clean blocks m.seen → answer (table_of m.seen) a ≡ refused_reply e → Took blocks m a (refused_reply e) n
answered-refused blocks m n a e looked clean is = inr (inr (record {
  was-up = looked.was-up;
  clean = clean;
  reply = sym is;
  refused = λ _. looked;
  done = λ z. absurd (refused-some e z);
}))

pub table-refused : {X : Type 0} {m k : Model} {P : X → Type 0} {x : X} (a : Ask) (e : Refusal) → Named a → Known m k (on a) P x → answer (table_of m.seen) a ≡ refused_reply e → FileCall m a (refused_reply e) k
table-refused {X} {m} {k} a e asks b is = taken-call a (refused_reply e) (in-order a asks b.formed) b.suitable (answered-refused (m.count / 32) m k a e b.looked b.clean is)

-- a call whose image is not opened is refused as that is
pub refused-call : {X : Type 0} {m n : Model} {P : X → Type 0} {missing : Type 0} (a : Ask) (e : Refusal) → Named a → (well_formed (on a) ≡ true → missing → answer (table_of m.seen) a ≡ refuse 4) → Opens m (on a) P missing (Err e) n → FileCall m a (refused_reply e) n
refused-call {X} {m} {n} {P} {missing} a e asks no_file opens = go (well_formed (on a)) refl
  where
    first : (b : Bool) → well_formed (on a) ≡ b → early a ≡ cond b None (Some (refuse 3))
    first b is = asks ∙ ap (λ (x : Bool). cond {A = Option Reply} x None (Some (refuse 3))) is

    replied : (f : Refusal) → ◌≡◌ {A = Result X Refusal} (Err e) (Err f) → refused_reply e ≡ refused_reply f
    replied f h = cc

    took : well_formed (on a) ≡ true → suits m.count ≡ true → Took (m.count / 32) m a (refused_reply e) n
    took t suit =
        let b = size-blocks m.count (m.count / 32) suit refl in
        ⊎_elim
        (λ h. took-refused (m.count / 32) m n a e b.0 b.2 h)
        (λ h. subst (λ y. Took (m.count / 32) m a (refused_reply y) n) (sym h.0) (answered-refused (m.count / 32) m n a NoFile h.1 h.2 (no_file t h.3)))
        (opens.taken t suit)

    go : (b : Bool) → well_formed (on a) ≡ b → FileCall m a (refused_reply e) n
    go false f = record {
      wrong = λ x y. let same = sym (first false f) ∙ y in (replied BadName (opens.wrong f).0 ∙ cc, (opens.wrong f).1);
      size = λ none. let some = first false f in absurd (cc);
      taken = λ none. let some = first false f in absurd (cc);
    }
    go true t = record {
      wrong = λ x y. let none = first true t in absurd (cc);
      size = λ _ f. let h = opens.size t f in (replied WrongSize h.0, h.1);
      taken = λ _ suit. took t suit;
    }

pub slot-refused : {m n : Model} (a : Ask) (e : Refusal) → FileCall m a (refused_reply e) n → SlotCall m a (refused_reply e) n
slot-refused a e call = record { call = call; settled = λ z. absurd (refused-some e z); only = λ z. absurd (refused-some e z) }

-- power was lost in a call whose arguments are in order, on a memory whose size suits
pub lost-call : {m n : Model} (a : Ask) (e : Refusal) → e ≡ PowerLost → early a ≡ None → suits m.count ≡ true → CallCut (m.count / 32) m a n → FileCall m a (refused_reply e) n
lost-call {m} {n} a e p none t cut = subst (λ y. FileCall m a (refused_reply y) n) (sym p) (taken-call a (refuse 1) none t (inl (refl, cut)))

-- so in one on a file that is known
pub cut-call : {X : Type 0} {m k n : Model} {P : X → Type 0} {x : X} (a : Ask) (e : Refusal) → e ≡ PowerLost → Named a → Known m k (on a) P x → CallCut (m.count / 32) m a n → FileCall m a (refused_reply e) n
cut-call a e p asks b cut = lost-call a e p (in-order a asks b.formed) b.suitable cut
