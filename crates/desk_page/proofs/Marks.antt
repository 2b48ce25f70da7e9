-- Where a mark stands in a text.
use Rattle.std.proofs.Common.{◌≡◌, ◌∙◌, ℕ, ◌+◌, ◌<◌, ◌≤◌, List, ◌∷◌, length, take, drop, get_or, Bool, true, false}
use Rattle.std.proofs.Common.{None, Some, refl, sym, ap}
use Rattle.std.proofs.lemmas.List.{drop_more, drop_all}
use Rattle.desk_output.proofs.Prefixes.{rest_from, rest_from-drop}
use Rattle.desk_http.specs.Texts.{same}
use Rattle.desk_page.specs.Reported.{after_mark}

-- the mark begins the text
abbrev pub begins : List ℕ → List ℕ → Bool
begins mark text = same (take (length mark) text) mark

here : (mark rest : List ℕ) (b : ℕ) → begins mark (b ∷ rest) ≡ true →
    after_mark mark (b ∷ rest) ≡ Some (drop (length mark) (b ∷ rest))
here mark rest b is = rw is refl

pub later : (mark rest : List ℕ) (b : ℕ) → begins mark (b ∷ rest) ≡ false →
    after_mark mark (b ∷ rest) ≡ after_mark mark rest
later mark rest b is = rw is refl

-- the mark stands at i
pub found : (mark text rest : List ℕ) (i : ℕ) → i < length text → begins mark (rest_from text i) ≡ true →
    rest ≡ drop (length mark) (rest_from text i) → after_mark mark (drop i text) ≡ Some rest
found mark text rest i within is rest_is =
    let parts = sym (rest_from-drop text i) in
    let first = drop_more text i 0 within in
    ap (after_mark mark) first
    ∙ here mark (drop (i + 1) text) (get_or text i 0) (sym (ap (begins mark) first) ∙ ap (begins mark) parts ∙ is)
    ∙ ap (λ t. Some (drop (length mark) t)) (sym first ∙ parts) ∙ ap Some (sym rest_is)

-- the mark does not stand at i
pub more : (mark text : List ℕ) (i : ℕ) → i < length text → begins mark (rest_from text i) ≡ false →
    after_mark mark (drop i text) ≡ after_mark mark (drop (i + 1) text)
more mark text i within is =
    let parts = sym (rest_from-drop text i) in
    let first = drop_more text i 0 within in
    ap (after_mark mark) first
    ∙ later mark (drop (i + 1) text) (get_or text i 0) (sym (ap (begins mark) first) ∙ ap (begins mark) parts ∙ is)

pub ended : (mark text : List ℕ) (i : ℕ) → length text ≤ i → after_mark mark (drop i text) ≡ None
ended mark text i end = rw (drop_all i text end) refl
