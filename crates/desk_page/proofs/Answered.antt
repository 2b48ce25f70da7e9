-- What answers a request.
use Rattle.std.proofs.Common.{◌≡◌, ◌∙◌, [], ◌∷◌, ◌++◌, ℕ, Bool, List, Ok, Err, OnOk, sym, ap, subst, inr, append_assoc}
use Rattle.bytes.specs.Filled.{Filled}
use Rattle.http.specs.declared.request.Parts.{Parts}
use Rattle.http_server.specs.declared.response.Response.{Response}
use Rattle.http_server.specs.Response.{fields_of}
use Rattle.std.specs.Prelude.{Option, Result, codes, decimal}
use Rattle.http1.specs.Fields.{Header}
use Rattle.desk_http.specs.Routes.{asked_in}
use Rattle.desk_http.specs.Policy.{policy_fields}
use Rattle.desk_page.specs.Boards.{IsNewer}
use Rattle.desk_page.specs.Groups.{group_text}
use Rattle.desk_page.specs.Fields.{AddsDate, AreFields, AreBoardFields, group_fields, json_by, json_fields, live_text}
use Rattle.desk_page.specs.Answers.{HasText, IsBoardAnswer, IsAnswer, AnswersHead}

-- what follows from two facts of one result
pub on_ok_both : {T E P Q R : Type 0} (r : Result T E) → (P → Q → R) → OnOk r P → OnOk r Q → OnOk r R
on_ok_both (Ok x) f p q = f p q
on_ok_both (Err e) f p q = tt

-- the fields that tell of the nodes are added one after the other
pub group_added : (run : ℕ) (is_live : Bool) (places : List (Option ℕ)) (old a b new : List Header) (r l n : List ℕ) →
    r ≡ decimal run → l ≡ live_text is_live → n ≡ group_text places → a ≡ old ++ (codes "desk-of", r) ∷ [] →
    b ≡ a ++ (codes "desk-live", l) ∷ [] → new ≡ b ++ (codes "desk-nodes", n) ∷ [] →
    new ≡ old ++ group_fields run is_live places
group_added run is_live places old a b new r l n run' live nodes first second third =
    let of : Header = (codes "desk-of", r) in
    let live_field : Header = (codes "desk-live", l) in
    let node_field : Header = (codes "desk-nodes", n) in
    third ∙ ap (λ t. t ++ node_field ∷ []) (second ∙ ap (λ t. t ++ live_field ∷ []) first)
    ∙ append_assoc (old ++ of ∷ []) (live_field ∷ []) (node_field ∷ [])
    ∙ append_assoc old (of ∷ []) (live_field ∷ node_field ∷ [])
    ∙ ap (λ t. old ++ ((codes "desk-of", t) ∷ live_field ∷ node_field ∷ [])) run'
    ∙ ap (λ t. old ++ ((codes "desk-of", decimal run) ∷ (codes "desk-live", t) ∷ node_field ∷ [])) live
    ∙ ap (λ t. old ++ ((codes "desk-of", decimal run) ∷ (codes "desk-live", live_text is_live)
    ∷ (codes "desk-nodes", t) ∷ [])) nodes

-- a board's fields, where there is a newer board
pub board_fields : (run s : ℕ) (is_live : Bool) (places : List (Option ℕ)) (old mid new : List Header) → old ≡ [] →
    mid ≡ old ++ group_fields run is_live places → s ≡ 200 → new ≡ mid ++ json_fields → AreBoardFields run s new
board_fields run s is_live places old mid new blank group status more = (
  is_live,
  places,
  more ∙ ap (λ l. l ++ json_fields) (group ∙ ap (λ l. l ++ group_fields run is_live places) blank)
      ∙ ap (λ n. group_fields run is_live places ++ json_by n) (sym status),
)

-- and where there is none
pub no_board_fields : (run s : ℕ) (is_live : Bool) (places : List (Option ℕ)) (old mid new : List Header) → old ≡ [] →
    mid ≡ old ++ group_fields run is_live places → s ≡ 204 → new ≡ mid → AreBoardFields run s new
no_board_fields run s is_live places old mid new blank group status same = (
  is_live,
  places,
  same ∙ group ∙ ap (λ l. l ++ group_fields run is_live places) blank
      ∙ ap (λ n. group_fields run is_live places ++ json_by n) (sym status),
)

module _ {S : Type 0} (answers : S → List ℕ → List ℕ → S → Type 0) where
  -- a newer board is an answer
  pub board : (after : Option ℕ) (line : List ℕ) (s : ℕ) (t : List ℕ) → IsNewer answers after line →
      HasText 200 line s t → IsBoardAnswer answers after s t
  board after line s t newer has = inr (has.0, subst (IsNewer answers after) (sym has.1) newer)

  -- an answer stays one where fields are added
  pub held : (run : ℕ) (head : Parts) (body : List ℕ) (old dated new : Response) →
      IsAnswer answers (asked_in head) run head body old.status old.body.items →
      AreFields (asked_in head) run old.status (fields_of old) →
      dated.status ≡ old.status → dated.body ≡ old.body → AddsDate (fields_of old) (fields_of dated) →
      new.status ≡ dated.status → new.body ≡ dated.body →
      fields_of new ≡ fields_of dated ++ policy_fields → AnswersHead answers run head body new
  held run head body old dated new is are status text date status' text' fields = (
    subst (λ (s : ℕ). IsAnswer answers (asked_in head) run head body s new.body.items) (sym (status' ∙ status))
        (subst (λ (r : Filled). IsAnswer answers (asked_in head) run head body old.status r.items)
        (sym (text' ∙ text)) is),
    (
      fields_of old,
      fields_of dated,
      subst (λ (s : ℕ). AreFields (asked_in head) run s (fields_of old)) (sym (status' ∙ status)) are,
      date,
      fields,
    ),
  )
