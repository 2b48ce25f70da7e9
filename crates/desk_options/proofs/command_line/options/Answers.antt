use Rattle.std.proofs.Common.{Some, map, option_map, ap, sym, ◌∙◌, codes, inl, inr}
use Rattle.std.proofs.lemmas.Slice.Eq.{bytes_eq-Decides}
use Rattle.desk_options.proofs.Words.{first-map, always_refused, no_command, no_version, other_word, no_word}
use Rattle.desk_options.proofs.command_line.options.Goals as goal
use Rattle.desk_options.proofs.command_line.options.Goals.{in_default-via-in-Some-11+else-eq-11}
use Rattle.desk_options.proofs.command_line.options.Goals.{in_default-via-in_default}

pub replay_options-requires : goal.replay_options-requires
replay_options-requires c =
    first-map (λ s. s.now) c.args.words.now ∙ ap (option_map (λ s. s.now)) (sym c.in-Some.ensures.value)
    ∙ ap Some ((bytes_eq-Decides c.in-Some.first.now.now (codes "replay")).0 (sym c.if-eq.ensures))

pub world_options-requires : goal.world_options-requires
world_options-requires c =
    first-map (λ s. s.now) c.args.words.now ∙ ap (option_map (λ s. s.now)) (sym c.in-Some.ensures.value)
    ∙ ap Some ((bytes_eq-Decides c.in-Some.first.now.now (codes "world")).0 (sym c.if-eq-2.ensures))

pub answer_options-requires : goal.answer_options-requires
answer_options-requires c =
    first-map (λ s. s.now) c.args.words.now ∙ ap (option_map (λ s. s.now)) (sym c.in-Some.ensures.value)
    ∙ ap Some ((bytes_eq-Decides c.in-Some.first.now.now (codes "answer")).0 (sym c.if-eq-3.ensures))

pub serve_options-requires : goal.serve_options-requires
serve_options-requires c =
    first-map (λ s. s.now) c.args.words.now ∙ ap (option_map (λ s. s.now)) (sym c.in-Some.ensures.value)
    ∙ ap Some ((bytes_eq-Decides c.in-Some.first.now.now (codes "serve")).0 (sym c.if-eq-4.ensures))

pub cluster_options-requires : goal.cluster_options-requires
cluster_options-requires c =
    first-map (λ s. s.now) c.args.words.now ∙ ap (option_map (λ s. s.now)) (sym c.in-Some.ensures.value)
    ∙ ap Some ((bytes_eq-Decides c.in-Some.first.now.now (codes "cluster")).0 (sym c.if-eq-5.ensures))

pub send_options-requires : goal.send_options-requires
send_options-requires c =
    first-map (λ s. s.now) c.args.words.now ∙ ap (option_map (λ s. s.now)) (sym c.in-Some.ensures.value)
    ∙ ap Some ((bytes_eq-Decides c.in-Some.first.now.now (codes "send")).0 (sym c.if-eq-6.ensures))

pub status_options-requires : goal.status_options-requires
status_options-requires c =
    first-map (λ s. s.now) c.args.words.now ∙ ap (option_map (λ s. s.now)) (sym c.in-Some.ensures.value)
    ∙ ap Some ((bytes_eq-Decides c.in-Some.first.now.now (codes "status")).0 (sym c.if-eq-7.ensures))

pub page_options-requires : goal.page_options-requires
page_options-requires c =
    first-map (λ s. s.now) c.args.words.now ∙ ap (option_map (λ s. s.now)) (sym c.in-Some.ensures.value)
    ∙ ap Some ((bytes_eq-Decides c.in-Some.first.now.now (codes "page")).0 (sym c.if-eq-8.ensures))

pub log_options-requires : goal.log_options-requires
log_options-requires c =
    first-map (λ s. s.now) c.args.words.now ∙ ap (option_map (λ s. s.now)) (sym c.in-Some.ensures.value)
    ∙ ap Some ((bytes_eq-Decides c.in-Some.first.now.now (codes "log")).0 (sym c.if-eq-9.ensures))

pub returns-in-Some-clause-asked : goal.returns-in-Some-clause-asked
returns-in-Some-clause-asked c = c.replay_options.ensures.asked

pub returns-in-Some-clause-refused : goal.returns-in-Some-clause-refused
returns-in-Some-clause-refused c = c.replay_options.ensures.refused

pub returns-in-Some-2-clause-asked : goal.returns-in-Some-2-clause-asked
returns-in-Some-2-clause-asked c = c.world_options.ensures.asked

pub returns-in-Some-2-clause-refused : goal.returns-in-Some-2-clause-refused
returns-in-Some-2-clause-refused c = c.world_options.ensures.refused

pub returns-in-Some-3-clause-asked : goal.returns-in-Some-3-clause-asked
returns-in-Some-3-clause-asked c = c.answer_options.ensures.asked

pub returns-in-Some-3-clause-refused : goal.returns-in-Some-3-clause-refused
returns-in-Some-3-clause-refused c = c.answer_options.ensures.refused

pub returns-in-Some-4-clause-asked : goal.returns-in-Some-4-clause-asked
returns-in-Some-4-clause-asked c = c.serve_options.ensures.asked

pub returns-in-Some-4-clause-refused : goal.returns-in-Some-4-clause-refused
returns-in-Some-4-clause-refused c = c.serve_options.ensures.refused

pub returns-in-Some-5-clause-asked : goal.returns-in-Some-5-clause-asked
returns-in-Some-5-clause-asked c = c.cluster_options.ensures.asked

pub returns-in-Some-5-clause-refused : goal.returns-in-Some-5-clause-refused
returns-in-Some-5-clause-refused c = c.cluster_options.ensures.refused

pub returns-in-Some-6-clause-asked : goal.returns-in-Some-6-clause-asked
returns-in-Some-6-clause-asked c = c.send_options.ensures.asked

pub returns-in-Some-6-clause-refused : goal.returns-in-Some-6-clause-refused
returns-in-Some-6-clause-refused c = c.send_options.ensures.refused

pub returns-in-Some-7-clause-asked : goal.returns-in-Some-7-clause-asked
returns-in-Some-7-clause-asked c = c.status_options.ensures.asked

pub returns-in-Some-7-clause-refused : goal.returns-in-Some-7-clause-refused
returns-in-Some-7-clause-refused c = c.status_options.ensures.refused

pub returns-in-Some-8-clause-asked : goal.returns-in-Some-8-clause-asked
returns-in-Some-8-clause-asked c = c.page_options.ensures.asked

pub returns-in-Some-8-clause-refused : goal.returns-in-Some-8-clause-refused
returns-in-Some-8-clause-refused c = c.page_options.ensures.refused

pub returns-in-Some-9-clause-asked : goal.returns-in-Some-9-clause-asked
returns-in-Some-9-clause-asked c = c.log_options.ensures.asked

pub returns-in-Some-9-clause-refused : goal.returns-in-Some-9-clause-refused
returns-in-Some-9-clause-refused c = c.log_options.ensures.refused

pub returns-in-Some-10-clause-asked : goal.returns-in-Some-10-clause-asked
returns-in-Some-10-clause-asked c = inl (first-map (λ s. s.now) c.args.words.now
    ∙ ap (option_map (λ s. s.now)) (sym c.in-Some.ensures.value)
    ∙ ap Some ((bytes_eq-Decides c.in-Some.first.now.now (codes "--version")).0 (sym c.if-eq-10.ensures)))

pub returns-in-Some-11-clause-asked : goal.returns-in-Some-11-clause-asked
returns-in-Some-11-clause-asked c = inr (first-map (λ s. s.now) c.args.words.now
    ∙ ap (option_map (λ s. s.now)) (sym c.in-Some.ensures.value)
    ∙ ap Some ((bytes_eq-Decides c.in-Some.first.now.now (codes "-V")).0 (sym c.if-eq-11.ensures)))

pub returns-in_default-clause-asked : goal.returns-in_default-clause-asked
returns-in_default-clause-asked c = tt

pub returns-in_default-clause-refused : goal.returns-in_default-clause-refused
returns-in_default-clause-refused c =
    let words = map (λ s. s.now) c.args.words.now in
    always_refused c.refused_words.result (elim c.in_default.branch [
      | in_default-via-in-Some-11+else-eq-11 w ↦
          let one = w.in-Some.first.now.now in
          let given = first-map (λ s. s.now) c.args.words.now
          ∙ ap (option_map (λ s. s.now)) (sym w.in-Some.ensures.value) in
          no_command words
          (other_word words one (codes "replay") given w.if-eq.ensures)
          (other_word words one (codes "world") given w.if-eq-2.ensures)
          (other_word words one (codes "answer") given w.if-eq-3.ensures)
          (other_word words one (codes "serve") given w.if-eq-4.ensures)
          (other_word words one (codes "cluster") given w.if-eq-5.ensures)
          (other_word words one (codes "send") given w.if-eq-6.ensures)
          (other_word words one (codes "status") given w.if-eq-7.ensures)
          (other_word words one (codes "page") given w.if-eq-8.ensures)
          (other_word words one (codes "log") given w.if-eq-9.ensures)
          (no_version words (other_word words one (codes "--version") given w.if-eq-10.ensures)
          (other_word words one (codes "-V") given w.if-eq-11.ensures))
      | in_default-via-in_default w ↦
          no_word words (first-map (λ s. s.now) c.args.words.now
          ∙ ap (option_map (λ s. s.now)) (sym w.in_default.ensures.value))
    ])
