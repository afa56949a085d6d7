-- What code asks of its parts, table by table, is what it asks.
use Rattle.std.proofs.Common.{List}
use Rattle.std.specs.Prelude.{All}
use Rattle.std.proofs.lemmas.List.Elements.{All-weaker}
use Rattle.ci_base.specs.declared.layout.Head.{Head}
use Rattle.ci_tree.specs.declared.token.TokenKind.TheVariants.{Name}
use Rattle.ci_tree.specs.Tokens.{IsKept}
use Rattle.ci_code.specs.declared.raw.RawParts.{RawParts}
use Rattle.ci_code.specs.Code.{IsCode, IsCounted, HasDefaults}
use Rattle.ci_assembly.specs.Parts.{DoFit, IsHead}

-- a fact of each function of the layout
of_heads : (P : Head → Type 0) → ((head : Head) → IsHead head → P head) → (heads : List Head) → All IsHead heads → All P heads
of_heads P h heads all = All-weaker IsHead P h heads all

pub is_code : (code : RawParts) → DoFit code → IsCode code
is_code code fit = record {
  one_each = fit.one_each;
  parameters = fit.parameters;
  defaults = of_heads HasDefaults (λ head h. h.defaults) code.layout.functions fit.heads;
  function_names = of_heads (λ head. IsKept (Name head.name)) (λ head h. h.name) code.layout.functions fit.heads;
  global_names = fit.named;
  first_values = fit.cells;
  globals_rise = fit.rise;
  counted = record {
    layout = record {
      functions = fit.lists.heads;
      cells = fit.lists.cells;
      globals = fit.lists.globals;
      parameters = of_heads (λ head. IsCounted head.kinds) (λ head h. h.few_kinds) code.layout.functions fit.heads;
      defaults = of_heads (λ head. IsCounted head.defaults) (λ head h. h.few_defaults) code.layout.functions fit.heads;
    };
    texts = fit.lists.texts;
    arrays = fit.lists.arrays;
    shapes = fit.lists.shapes;
    each_shape = fit.lists.each_shape;
    functions = fit.lists.functions;
    each_function = fit.each_function;
  };
}

pub code_fits : (code : RawParts) → IsCode code → DoFit code
code_fits code is = record {
  one_each = is.one_each;
  parameters = is.parameters;
  heads = λ k d within. record {
    few_kinds = is.counted.layout.parameters k d within;
    few_defaults = is.counted.layout.defaults k d within;
    defaults = is.defaults k d within;
    name = is.function_names k d within;
  };
  cells = is.first_values;
  named = is.global_names;
  rise = is.globals_rise;
  each_function = is.counted.each_function;
  lists = record {
    heads = is.counted.layout.functions;
    cells = is.counted.layout.cells;
    globals = is.counted.layout.globals;
    texts = is.counted.texts;
    arrays = is.counted.arrays;
    shapes = is.counted.shapes;
    functions = is.counted.functions;
    each_shape = is.counted.each_shape;
  };
}
