use Rattle.std.proofs.Common.{refl}
use Rattle.hp_views.proofs.laws.steps_mean.Goals as goal

pub returns : goal.returns
returns c = record {
  steps = record {
    frameset = (refl, refl);
    skip = (refl, refl);
    switch = λ m. (refl, refl);
    keep = (refl, refl);
    original = (refl, refl);
    push_mode = λ m. (refl, refl);
    pop_mode = (refl, refl);
    replace_mode = λ m. (refl, refl);
    empty_form = (refl, refl);
    point_form = (refl, refl);
    quirks = (refl, refl);
    point_head = (refl, refl);
    empty_pending = (refl, refl);
    append_pending = λ text. (refl, refl);
    marker = (refl, refl);
    append = λ tag. (refl, refl);
    clear = (refl, refl);
    pop = (refl, refl);
    pop_run = λ names. (refl, refl);
    pop_to = λ goals. (refl, refl);
    through = λ goals stops. (refl, refl);
    pop_to_first = (refl, refl);
    put = λ fostering what. (refl, refl);
    put_document = λ what. (refl, refl);
    put_first = λ what. (refl, refl);
    insert = λ fostering tag. (refl, refl);
    insert_document = λ tag. (refl, refl);
    add_first = λ attributes. (refl, refl);
    add_body = λ attributes. (refl, refl);
    detach = (refl, refl);
    reset = (refl, refl);
    implied = (refl, refl);
    implied_except = λ name. (refl, refl);
    implied_thoroughly = (refl, refl);
    through_named = λ name. (refl, refl);
    walk = λ name. (refl, refl);
    close = λ name. (refl, refl);
    close_paragraph = (refl, refl);
    close_item = (refl, refl);
    close_description = (refl, refl);
    end_form_in_template = (refl, refl);
    end_form = (refl, refl);
    push_head = (refl, refl);
    take_head_off = (refl, refl);
  };
  tests = record {
    seen = λ goals stops. (refl, refl);
    in_scope = λ where_ goals. (refl, refl);
    current = λ goals. (refl, refl);
    below = λ goals. (refl, refl);
    template = (refl, refl);
    frameset_ok = (refl, refl);
    quirks = (refl, refl);
    form = (refl, refl);
    listed = λ name. (refl, refl);
    second = (refl, refl);
    foreign = (refl, refl);
  };
}
