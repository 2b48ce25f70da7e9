-- Inputs that are answered, as another state tells of it.
use Rattle.std.proofs.Common.{ℕ, List, [], ◌∷◌, Option, ap}
use Rattle.desk_types.specs.declared.refusal.Refusal.{Refusal}
use Rattle.desk_lines.specs.Lines.{spoken}
use Rattle.desk_lines.specs.Served.{Serves, Served, Stops, BreaksOff}

module _ {S T : Type 0} (f : S → T) (A : S → List ℕ → List ℕ → S → Type 0) (B : T → List ℕ → List ℕ → T → Type 0)
    (g : S → List ℕ → Refusal → S → Type 0) (k : T → List ℕ → Refusal → T → Type 0)
    (maps : (s : S) (line text : List ℕ) (t : S) → A s line text t → B (f s) line text (f t))
    (ups : (s : S) (line : List ℕ) (r : Refusal) (t : S) → g s line r t → k (f s) line r (f t)) where
  serves-map : (a b : S) (lines texts : List (List ℕ)) → Serves A a lines texts b → Serves B (f a) lines texts (f b)
  serves-map a b [] [] h = ap f h
  serves-map a b (l ∷ lines) (t ∷ texts) h = (f h.0, maps a l t h.0 h.1, serves-map h.0 b lines texts h.2)
  serves-map a b [] (t ∷ texts) h = absurd h
  serves-map a b (l ∷ lines) [] h = absurd h

  stops-map : (r : Refusal) (asked : List (List ℕ)) (a b : S) → Stops A g r asked a b → Stops B k r asked (f a) (f b)
  stops-map r [] a b h = ap f h
  stops-map r (line ∷ []) a b h = ups a line r b h
  stops-map r (line ∷ next ∷ lines) a b h = absurd h

  pub served-map : (a b : S) (s t : Option (List ℕ)) (lines : List (List ℕ)) → Served A a s lines b t →
      Served B (f a) s lines (f b) t
  served-map a b s t lines h = (h.0, serves-map a b _ h.0 h.1, h.2)

  pub breaks-map : (r : Refusal) (a b : S) (s t : Option (List ℕ)) (lines : List (List ℕ)) →
      BreaksOff A g r a s lines b t → BreaksOff B k r (f a) s lines (f b) t
  breaks-map r a b s t lines h =
      let e = h.3 in
      (h.0, h.1, h.2, (e.0, f e.1, serves-map a e.1 _ e.0 e.2, stops-map r (spoken h.1) e.1 b e.3, e.4))
