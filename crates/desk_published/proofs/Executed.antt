-- The board of a list with one entry more.
use Rattle.std.proofs.Common.{◌≡◌, ℕ, ◌+◌, List, [], ◌∷◌, ◌++◌, length, map, refl, sym, ◌∙◌, ap}
use Rattle.desk_types.specs.declared.command.Entry.{Entry}
use Rattle.desk_board.specs.BoardValue.{BoardValue}
use Rattle.desk_board.specs.Execute.{execute}
use Rattle.desk_board.specs.Log.{board_of}
use Rattle.desk_published.specs.Requests.{request_id}
use Rattle.desk_published.specs.declared.published.RequestId.{RequestId}
use Rattle.desk_board.proofs.LogBoards.{board_of-push, board_of-count}

pub next_place : (board : BoardValue) (domain : List ℕ) (list : List Entry) (place : ℕ) →
    board ≡ board_of domain list → place ≡ length list → place + 1 ≡ board.count + 1
next_place board domain list place e at =
    ap (λ k. k + 1) (at ∙ sym (board_of-count domain list) ∙ ap (λ (b : BoardValue). b.count) (sym e))

pub one_more : (board new : BoardValue) (domain : List ℕ) (list : List Entry) (e : Entry) (place : ℕ) →
    board ≡ board_of domain list → place ≡ length list → new ≡ (execute board (place + 1) e).0 →
    new ≡ board_of domain (list ++ e ∷ [])
one_more board new domain list e place is at did =
    did
    ∙ ap (λ k. (execute board (k + 1) e).0) at
    ∙ ap (λ b. (execute b (length list + 1) e).0) is
    ∙ sym (board_of-push domain list e)

map_push : (list : List Entry) (e : Entry) →
    map request_id (list ++ e ∷ []) ≡ map request_id list ++ request_id e ∷ []
map_push [] e = refl
map_push (x ∷ list) e = ap (λ w. request_id x ∷ w) (map_push list e)

-- whose requests the entries are, with one entry more
pub request_more : (list : List Entry) (requests new : List RequestId) (e : Entry) → requests ≡ map request_id list →
    new ≡ requests ++ request_id e ∷ [] → new ≡ map request_id (list ++ e ∷ [])
request_more list requests new e is did = did ∙ ap (λ w. w ++ request_id e ∷ []) is ∙ sym (map_push list e)
