-- A copy that does not fit, and stops on its way.
use Rattle.std.proofs.Common.{◌≡◌, List, ℕ, String, Global, string_bytes, Result, Ok, Err, OnErr, sym, ap, subst}
use Rattle.std.proofs.Common.{◌∙◌, refl, rules}
use Rattle.serde_json.specs.View.{view}
use Rattle.serde_json.specs.declared.value.Value.{Value, the_lemmas}
use Rattle.serde_json.specs.Data.{Data, string, Items, item, Members, member}
use Rattle.desk_arena.specs.Contents.{Contents, with_text}
use Rattle.desk_arena.specs.declared.text.Text.{Text}
use Rattle.desk_eido.specs.Copied.{IsPartOf, no_name, next_text, with_copy, with_items, with_members}
use Rattle.desk_eido.proofs.Growing.{IsPartOf-trans, IsPartOf-with_text}
use Rattle.desk_eido.proofs.Growing.{IsPartOf-with_copy, IsPartOf-with_items, IsPartOf-with_members}

-- what was held stands, and after it no more than the whole of what is to be copied
abbrev pub IsBetween : Contents → Contents → Contents → Type 0
IsBetween old new whole = IsPartOf old new × IsPartOf new whole

pub view-Text : (s : String Global) → view (Value.String s) ≡ string (string_bytes s)
view-Text s = search (rules, the_lemmas)

module _ {X E : Type 0} (r : Result X E) where
  on_err : (P : Type 0) → P → OnErr r P
  on_err P h = at r P h
    where
      at : (r : Result X E) (P : Type 0) → P → OnErr r P
      at (Ok x) P h = tt
      at (Err e) P h = h

  pub begun-items : (d : Data) (left rest all : Items) (a b new : Contents) → left ≡ item d rest →
      with_items left b ≡ with_items all a → IsPartOf a b → IsBetween b new (with_copy d no_name b) →
      OnErr r (IsBetween a new (with_items all a))
  begun-items d left rest all a b new is whole preserved h =
      let there = with_copy d no_name b in
      let ends : with_items rest there ≡ with_items all a = ap (λ ds. with_items ds b) (sym is) ∙ whole in
      on_err (IsBetween a new (with_items all a)) (
        IsPartOf-trans a b new preserved h.0,
        subst (IsPartOf new) ends (IsPartOf-trans new there _ h.1 (IsPartOf-with_items rest there)),
      )

  -- the name of a member did not fit
  pub begun-name : (left all : Members) (a b new : Contents) → with_members left b ≡ with_members all a →
      IsPartOf a b → new ≡ b → OnErr r (IsBetween a new (with_members all a))
  begun-name left all a b new whole preserved same =
      on_err (IsBetween a new (with_members all a)) (
        subst (IsPartOf a) (sym same) preserved,
        subst (λ z. IsPartOf z (with_members all a)) (sym same)
            (subst (IsPartOf b) whole (IsPartOf-with_members left b)),
      )

  -- the value of a member did not fit
  pub begun-members : (key : List ℕ) (name : Text) (d : Data) (left rest all : Members) (a b named new : Contents) →
      left ≡ member key d rest → name ≡ next_text b key → named ≡ with_text b key →
      with_members left b ≡ with_members all a → IsPartOf a b → IsBetween named new (with_copy d name named) →
      OnErr r (IsBetween a new (with_members all a))
  begun-members key name d left rest all a b named new is name_is named_is whole preserved h =
      let there = with_copy d (next_text b key) (with_text b key) in
      let ends : with_members rest there ≡ with_members all a = ap (λ ms. with_members ms b) (sym is) ∙ whole in
      let up : IsPartOf b named = subst (IsPartOf b) (sym named_is) (IsPartOf-with_text b key) in
      let copy_is : with_copy d name named ≡ there = rw (name_is, named_is) refl in
      on_err (IsBetween a new (with_members all a)) (
        IsPartOf-trans a b new preserved (IsPartOf-trans b named new up h.0),
        subst (IsPartOf new) ends (IsPartOf-trans new there _ (subst (IsPartOf new) copy_is h.1)
            (IsPartOf-with_members rest there)),
      )

-- what was held stands after a copy, and after a member
pub part-copy : (d : Data) (name : Text) (a b new : Contents) → IsPartOf a b → new ≡ with_copy d name b →
    IsPartOf a new
part-copy d name a b new preserved is =
    subst (IsPartOf a) (sym is) (IsPartOf-trans a b (with_copy d name b) preserved (IsPartOf-with_copy d name b))

pub part-member : (key : List ℕ) (d : Data) (a b new : Contents) → IsPartOf a b →
    new ≡ with_copy d (next_text b key) (with_text b key) → IsPartOf a new
part-member key d a b new preserved is =
    part-copy d (next_text b key) a (with_text b key) new
    (IsPartOf-trans a b (with_text b key) preserved (IsPartOf-with_text b key)) is

pub named_copy : (d : Data) (name : Text) (key : List ℕ) (b named : Contents) → name ≡ next_text b key →
    named ≡ with_text b key → with_copy d name named ≡ with_copy d (next_text b key) (with_text b key)
named_copy d name key b named name_is named_is = rw (name_is, named_is) refl
