-- Sessions in a turn: what items, answers and a stop make of them.
use Rattle.std.proofs.Common.{◌≡◌, ◌++◌, List, [], ◌∷◌, refl, sym, ◌∙◌, ap, subst, append_assoc, append-nil}
use Rattle.std.proofs.Common.{◌⊎◌, inl, inr, ◌<◌, ℕ, ◌+◌, length, take, get_or, Option, None, Some, IfSome}
use Rattle.std.proofs.Common.{option_to_list, is_some, true, false}
use Rattle.std.proofs.lemmas.List.{take_more}
use Rattle.std.specs.List.{AllZip, FoldsTo}
use Rattle.desk_types.specs.declared.outcome.Outcome.{Outcome}
use Rattle.desk_mailbox.specs.declared.item.Item.{Item}
use Rattle.desk_mailbox.specs.declared.item.Item.TheVariants as items
use Rattle.desk_replica.specs.declared.answer.Answer.{Answer}
use Rattle.desk_replica.specs.Answers.{session_answer, session_answers}
use Rattle.desk_threads.specs.Waiting.{SessionValue, after_item, Hears, HearsAll}
use Rattle.desk_replica.specs.Answers.{TakesMemory}
use Rattle.desk_threads.specs.Telling.{after_items, late_of, NotesItems}

after_then : (xs ys : List Item) (s : List SessionValue) → after_items (xs ++ ys) s ≡ after_items ys (after_items xs s)
after_then [] ys s = refl
after_then (x ∷ xs) ys s = after_then xs ys (after_item x s)

-- a request or a packet is noted
pub notes_early : (item : Item) (old new : List SessionValue) → is_some (late_of item) ≡ false →
    new ≡ after_item item old → NotesItems (item ∷ []) old new (late_of item)
notes_early (items.Request session entry) old new is e = (items.Request session entry ∷ [], refl, e)
notes_early (items.Packet packet) old new is e = (items.Packet packet ∷ [], refl, e)
notes_early items.Tick old new is e = absurd (let none : ⊥ = cc in none)
notes_early items.Stop old new is e = absurd (let none : ⊥ = cc in none)

-- a tick or a stop is kept for later
pub notes_late : (item : Item) (old new : List SessionValue) → is_some (late_of item) ≡ true → new ≡ old →
    NotesItems (item ∷ []) old new (late_of item)
notes_late (items.Request session entry) old new is e = absurd (let none : ⊥ = cc in none)
notes_late (items.Packet packet) old new is e = absurd (let none : ⊥ = cc in none)
notes_late items.Tick old new is e = ([], refl, e)
notes_late items.Stop old new is e = ([], refl, e)

-- more items after those before
pub notes_then : (xs ys : List Item) (old mid new : List SessionValue) (late : Option Item) →
    NotesItems xs old mid None → NotesItems ys mid new late → NotesItems (xs ++ ys) old new late
notes_then xs ys old mid new late (one, e, f) (two, h, i) = (
  one ++ two,
  ap (λ w. xs ++ w) h ∙ ap (λ w. w ++ (two ++ option_to_list late)) (e ∙ append-nil one)
      ∙ sym (append_assoc one two (option_to_list late)),
  i ∙ ap (after_items two) f ∙ sym (after_then one two old),
)

-- all items of a turn, the late one too
pub notes_all : (turn : List Item) (old new : List SessionValue) (late : Option Item) → NotesItems turn old new late →
    after_items (option_to_list late) new ≡ after_items turn old
notes_all turn old new late (early, e, f) =
    ap (after_items (option_to_list late)) f ∙ sym (after_then early (option_to_list late) old)
    ∙ ap (λ w. after_items w old) (sym e)

folds_then : {P A : Type 0} (R : P → A → P → Type 0) (p q r : P) (xs ys : List A) → FoldsTo R p xs q →
    FoldsTo R q ys r → FoldsTo R p (xs ++ ys) r
folds_then R p q r [] ys e h = subst (λ w. FoldsTo R w ys r) (sym e) h
folds_then R p q r (x ∷ xs) ys (j, s, more) h = (j, s, folds_then R j q r xs ys more h)

zips_then : {A : Type 0} (P Q R : A → A → Type 0) (xs ys zs : List A) → ((x y z : A) → P x y → Q y z → R x z) →
    AllZip P xs ys → AllZip Q ys zs → AllZip R xs zs
zips_then P Q R [] [] [] f a b = tt
zips_then P Q R [] [] (z ∷ zs) f a b = absurd b
zips_then P Q R [] (y ∷ ys) zs f a b = absurd a
zips_then P Q R (x ∷ xs) [] zs f a b = absurd a
zips_then P Q R (x ∷ xs) (y ∷ ys) [] f a b = absurd b
zips_then P Q R (x ∷ xs) (y ∷ ys) (z ∷ zs) f (p, a) (q, b) = (f x y z p q, zips_then P Q R xs ys zs f a b)

zips_same : {A : Type 0} (R : A → A → Type 0) (xs : List A) → ((x : A) → R x x) → AllZip R xs xs
zips_same R [] f = tt
zips_same R (x ∷ xs) f = (f x, zips_same R xs f)

pub hears_none : (s : List SessionValue) → AllZip (HearsAll []) s s
hears_none s = zips_same (HearsAll []) s (λ x. refl)

pub hears_then : (xs ys : List Answer) (old mid new : List SessionValue) → AllZip (HearsAll xs) old mid →
    AllZip (HearsAll ys) mid new → AllZip (HearsAll (xs ++ ys)) old new
hears_then xs ys old mid new =
    zips_then (HearsAll xs) (HearsAll ys) (HearsAll (xs ++ ys)) old mid new
    (λ x y z. folds_then _ x y z xs ys)

zips_each : {A : Type 0} (P Q : A → A → Type 0) (xs ys : List A) → ((x y : A) → P x y → Q x y) → AllZip P xs ys →
    AllZip Q xs ys
zips_each P Q [] [] f h = tt
zips_each P Q [] (y ∷ ys) f h = absurd h
zips_each P Q (x ∷ xs) [] f h = absurd h
zips_each P Q (x ∷ xs) (y ∷ ys) f (p, h) = (f x y p, zips_each P Q xs ys f h)

pub hears_one : (answer : Answer) (old new : List SessionValue) → AllZip (Hears answer) old new →
    AllZip (HearsAll (answer ∷ [])) old new
hears_one answer old new h = zips_each (Hears answer) (HearsAll (answer ∷ [])) old new (λ x y p. (y, p, refl)) h

answers_more : (base : ℕ) (xs : List Outcome) (x : Outcome) →
    session_answers base (xs ++ x ∷ []) ≡ session_answers base xs ++ option_to_list (session_answer base x)
answers_more base [] x = append-nil (option_to_list (session_answer base x))
answers_more base (y ∷ xs) x =
    ap (λ w. option_to_list (session_answer base y) ++ w) (answers_more base xs x)
    ∙ sym (append_assoc (option_to_list (session_answer base y)) (session_answers base xs)
    (option_to_list (session_answer base x)))

-- one outcome more was heard
pub hears_more : (base : ℕ) (xs : List Outcome) (x : Outcome) (old mid new : List SessionValue) →
    AllZip (HearsAll (session_answers base xs)) old mid →
    AllZip (HearsAll (option_to_list (session_answer base x))) mid new →
    AllZip (HearsAll (session_answers base (xs ++ x ∷ []))) old new
hears_more base xs x old mid new one more =
    subst (λ w. AllZip (HearsAll w) old new) (sym (answers_more base xs x))
    (hears_then (session_answers base xs) (option_to_list (session_answer base x)) old mid new one more)

-- and so of outcomes, one by one
pub hears_next : (base : ℕ) (xs : List Outcome) (i : ℕ) (x : Outcome) (old mid new : List SessionValue) →
    i < length xs → x ≡ get_or xs i x → AllZip (HearsAll (session_answers base (take i xs))) old mid →
    AllZip (HearsAll (option_to_list (session_answer base x))) mid new →
    AllZip (HearsAll (session_answers base (take (i + 1) xs))) old new
hears_next base xs i x old mid new lt is one more =
    subst (λ l. AllZip (HearsAll (session_answers base l)) old new)
    (ap (λ z. take i xs ++ z ∷ []) is ∙ sym (take_more xs i x lt))
    (hears_more base (take i xs) x old mid new one more)

-- the answer of an outcome was heard
pub hears_some : (o r : Option Answer) (answer : Answer) (old new : List SessionValue) →
    (r ≡ o) ⊎ ((r ≡ None) × IfSome o TakesMemory) → r ≡ Some answer → AllZip (Hears answer) old new →
    AllZip (HearsAll (option_to_list o)) old new
hears_some o r answer old new (inl same) is h =
    subst (λ w. AllZip (HearsAll (option_to_list w)) old new) (sym is ∙ same) (hears_one answer old new h)
hears_some o r answer old new (inr (none, takes)) is h = absurd (let no : ⊥ = cc in no)

unheard : (o : Option Answer) (s : List SessionValue) → IfSome o TakesMemory → AllZip (HearsAll (option_to_list o)) s s
unheard None s takes = hears_none s
unheard (Some answer) s takes = zips_same (HearsAll (answer ∷ [])) s (λ x. (x, inr (takes, refl), refl))

-- there was none to hear, or no memory for it
pub hears_nothing : (o r : Option Answer) (s : List SessionValue) →
    (r ≡ o) ⊎ ((r ≡ None) × IfSome o TakesMemory) → r ≡ None → AllZip (HearsAll (option_to_list o)) s s
hears_nothing o r s (inl same) is =
    subst (λ w. AllZip (HearsAll (option_to_list w)) s s) (sym is ∙ same) (hears_none s)
hears_nothing o r s (inr (none, takes)) is = unheard o s takes
