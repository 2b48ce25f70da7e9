-- The tokens that a desk's logs name are those that nodes find in the replacements which they keep.
use Rattle.std.proofs.Common.{◌≡◌, ℕ, Bool, true, false, ◌||◌, cond, List, [], ◌∷◌, Option, Some, None, refl, sym}
use Rattle.std.proofs.Common.{ap, ◌∙◌, eqb}
use Rattle.desk_types.specs.declared.command.Entry.{Entry}
use Rattle.desk_epochs.specs.Epochs.{joined_logs}
use Rattle.desk_epoch_node.specs.declared.replacement.Replacement.{Replacement}
use Rattle.desk_epoch_node.specs.declared.standing.Standing.TheVariants.{Acts, Awaits, Replaced}
use Rattle.desk_epoch_node.specs.EpochValue.{EpochValue, acts, is_acting}
use Rattle.desk_epoch_node.specs.PastRows.{StandFor}
use Rattle.desk_epoch_node.specs.Replacements.{named_by, names_token, replacements, token_after, token_of}
use Rattle.desk_epoch_node.specs.Replacements.{with_replacement}
use Rattle.desk_epoch_members.specs.NodeAgreement.{TokensAreNamed, rules_after}
use Rattle.desk_epoch_members.specs.Tokens.{Desk, acts_in, named_token, with_named}

after_one : (number token : ℕ) (o : Option Replacement) (rs : List Replacement) →
    token_after number (with_named number token o) rs ≡ token_after number token (with_replacement o rs)
after_one number token None rs = refl
after_one number token (Some r) rs = refl

named_after : (most number token : ℕ) (log : List Entry) →
    named_token (rules_after most) number token log ≡ token_after number token (replacements log)
named_after most number token [] = refl
named_after most number token (e ∷ es) =
    named_after most number (with_named number token (named_by e)) es
    ∙ after_one number token (named_by e) (replacements es)

pub tokens_are_named : TokensAreNamed
tokens_are_named most number log = named_after most number 0 log

acting_is : (has was : Bool) → is_acting (cond has Acts (cond was Replaced Awaits)) ≡ has
acting_is true was = refl
acting_is false true = refl
acting_is false false = refl

-- A node acts where the logs behind it name its token for its number.
pub acts_by : (e : EpochValue) (past : List Entry) (most i t : ℕ) → StandFor past e.past → e.node.id ≡ i →
    e.token ≡ t → acts e ≡ eqb (named_token (rules_after most) i 0 past) t
acts_by e past most i t stand id_is token_is =
    acting_is (eqb (token_of e.past.replacements e.node.id) e.token)
    (eqb e.token 0 || names_token e.node.id e.token e.past.replacements)
    ∙ (ap (λ (rs : List Replacement). eqb (token_of rs e.node.id) e.token) stand.replacements_are
    ∙ (ap (λ k. eqb (token_of (replacements past) k) e.token) id_is
    ∙ (ap (λ k. eqb (token_of (replacements past) i) k) token_is
    ∙ ap (λ k. eqb k t) (sym (named_after most i 0 past)))))

-- So it does in a desk in which these are the logs behind it.
pub acts_in_desk : (d : Desk) (e : EpochValue) (logs : List (List Entry)) (most i t : ℕ) →
    StandFor (joined_logs logs) e.past → e.node.id ≡ i → e.token ≡ t → d.pasts i t ≡ logs →
    acts e ≡ acts_in (rules_after most) d i t
acts_in_desk d e logs most i t stand id_is token_is pasts_are =
    acts_by e (joined_logs logs) most i t stand id_is token_is
    ∙ ap (λ (ls : List (List Entry)). eqb (named_token (rules_after most) i 0 (joined_logs ls)) t) (sym pasts_are)
