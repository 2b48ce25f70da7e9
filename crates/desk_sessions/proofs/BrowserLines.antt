-- Lines of a browser, and inputs whose first line is one.
use Rattle.std.proofs.Common.{◌≡◌, ℕ, List, [], ◌∷◌, ◌++◌, Bool, true, false, Option, Some, None, refl, sym, ap, subst}
use Rattle.std.proofs.Common.{◌∙◌, ◌||◌, ◌&&◌, not, inl, inr, append-nil, append_assoc, length, take, nat_lt}
use Rattle.std.proofs.Common.{option_map}
use Rattle.desk_types.specs.declared.limits.TheConstants.{LINE_BYTES}
use Rattle.std.proofs.Math.Bool.{and-false}
use Rattle.std.proofs.lemmas.Bool.{false≢true}
use Rattle.std.proofs.lemmas.List.Elements.{filter-append}
use Rattle.std.specs.Io.KnownBytes.{Appends, Keeps}
use Rattle.desk_types.specs.declared.refusal.Refusal.{Refusal}
use Rattle.desk_lines.specs.Lines.{spoken}
use Rattle.desk_lines.specs.Served.{Serves, Served, Stops, BreaksOff, AppendsAlmost}
use Rattle.desk_types.specs.Identifier.{is_empty}
use Rattle.desk_types.specs.Lists.{split_at}
use Rattle.desk_sessions.specs.Browsers.{is_browser_line, is_of_browser, begins_request, has_version, IsBrowserFirst}
use Rattle.desk_sessions.specs.Laws.{BeginsDocument, NoBrowserLineIsADocument}

-- a byte that is none of a method, and does not end one
other-123 : (c : Bool) (o : Option (List ℕ × List ℕ)) →
    begins_request c (option_map (λ p. (123 ∷ p.0, p.1)) o) ≡ false
other-123 c None = refl
other-123 c (Some p) =
    ap (λ x. x && (c || has_version (split_at 32 p.1))) (and-false (not (is_empty (123 ∷ p.0))))

other-9 : (c : Bool) (o : Option (List ℕ × List ℕ)) → begins_request c (option_map (λ p. (9 ∷ p.0, p.1)) o) ≡ false
other-9 c None = refl
other-9 c (Some p) =
    ap (λ x. x && (c || has_version (split_at 32 p.1))) (and-false (not (is_empty (9 ∷ p.0))))

other-13 : (c : Bool) (o : Option (List ℕ × List ℕ)) → begins_request c (option_map (λ p. (13 ∷ p.0, p.1)) o) ≡ false
other-13 c None = refl
other-13 c (Some p) =
    ap (λ x. x && (c || has_version (split_at 32 p.1))) (and-false (not (is_empty (13 ∷ p.0))))

no-start : (c : Bool) (b : ℕ) (bytes : List ℕ) → BeginsDocument b → is_of_browser c (b ∷ bytes) ≡ false
no-start c b bytes (inl e) = subst (λ x. is_of_browser c (x ∷ bytes) ≡ false) (sym e)
    (ap (λ x. x || false) (other-123 c (split_at 32 bytes)))
no-start c b bytes (inr (inl e)) = subst (λ x. is_of_browser c (x ∷ bytes) ≡ false) (sym e) refl
no-start c b bytes (inr (inr (inl e))) = subst (λ x. is_of_browser c (x ∷ bytes) ≡ false) (sym e)
    (ap (λ x. x || false) (other-9 c (split_at 32 bytes)))
no-start c b bytes (inr (inr (inr e))) = subst (λ x. is_of_browser c (x ∷ bytes) ≡ false) (sym e)
    (ap (λ x. x || false) (other-13 c (split_at 32 bytes)))

pub no_document : NoBrowserLineIsADocument
no_document b line begins = no-start (nat_lt LINE_BYTES (length (b ∷ line))) b (take 65535 line) begins

keeps-nothing : (s t : Option (List ℕ)) → Appends s t [] → Keeps s t
keeps-nothing None t h = tt
keeps-nothing (Some xs) None h = h
keeps-nothing (Some xs) (Some ys) h = h ∙ append-nil xs

no-last : {A : Type 0} (xs : List A) (x : A) → [] ≡ xs ++ x ∷ [] → ⊥
no-last [] x e = cc e
no-last (y ∷ xs) x e = cc e

almost-nothing : (r : Refusal) (s t : Option (List ℕ)) → AppendsAlmost r s t [] → Keeps s t
almost-nothing r s t (inl h) = keeps-nothing s t h
almost-nothing r s t (inr h) = absurd (no-last h.1 h.2 h.5)

first-stays : (front rest lines : List (List ℕ)) (line : List ℕ) (lines' : List (List ℕ)) →
    front ++ rest ≡ lines → spoken front ≡ line ∷ lines' → IsBrowserFirst (spoken lines) → is_browser_line line ≡ true
first-stays front rest lines line lines' whole begins first =
    subst IsBrowserFirst (ap spoken (sym whole) ∙ filter-append _ front rest ∙ ap (λ l. l ++ spoken rest) begins) first

module _ {S : Type 0} (A : S → List ℕ → List ℕ → S → Type 0) (g : S → List ℕ → Refusal → S → Type 0)
    (own : (s : S) (line text : List ℕ) (t : S) → A s line text t → is_browser_line line ≡ false)
    (stays : (s : S) (line : List ℕ) (r : Refusal) (t : S) → g s line r t → t ≡ s) where
  serves-none : (a b : S) (lines texts : List (List ℕ)) → Serves A a lines texts b → IsBrowserFirst lines → ⊥
  serves-none a b [] texts h first = first
  serves-none a b (l ∷ lines) [] h first = h
  serves-none a b (l ∷ lines) (t ∷ texts) h first = false≢true (sym (own a l t h.0 h.1) ∙ first)

  pub served-none : (a b : S) (s t : Option (List ℕ)) (lines : List (List ℕ)) → Served A a s lines b t →
      IsBrowserFirst (spoken lines) → ⊥
  served-none a b s t lines h first = serves-none a b (spoken lines) h.0 h.1 first

  stops-same : (r : Refusal) (asked : List (List ℕ)) (a b : S) → Stops A g r asked a b → b ≡ a
  stops-same r [] a b h = h
  stops-same r (line ∷ []) a b h = stays a line r b h
  stops-same r (line ∷ next ∷ lines) a b h = absurd h

  ends-same : (r : Refusal) (a last b : S) (s t : Option (List ℕ)) (first texts asked lines : List (List ℕ)) →
      Serves A a first texts last → Stops A g r asked last b → AppendsAlmost r s t texts →
      ((line : List ℕ) (rest : List (List ℕ)) → first ≡ line ∷ rest → is_browser_line line ≡ true) →
      (b ≡ a) × Keeps s t
  ends-same r a last b s t [] [] asked lines served stops grows begins =
      (stops-same r asked last b stops ∙ served, almost-nothing r s t grows)
  ends-same r a last b s t [] (x ∷ texts) asked lines served stops grows begins = absurd served
  ends-same r a last b s t (l ∷ first) [] asked lines served stops grows begins = absurd served
  ends-same r a last b s t (l ∷ first) (x ∷ texts) asked lines served stops grows begins =
      absurd (false≢true (sym (own a l x served.0 served.1) ∙ begins l first refl))

  pub breaks-same : (r : Refusal) (a b : S) (s t : Option (List ℕ)) (lines : List (List ℕ)) →
      BreaksOff A g r a s lines b t → IsBrowserFirst (spoken lines) → (b ≡ a) × Keeps s t
  breaks-same r a b s t lines h first =
      let e = h.3 in
      let whole = sym (append_assoc h.0 h.1 h.2.0) ∙ h.2.1 in
      ends-same r a e.1 b s t (spoken h.0) e.0 (spoken h.1) lines e.2 e.3 e.4
      (λ line rest is. first-stays h.0 (h.1 ++ h.2.0) lines line rest whole is first)
