-- `octets::resolve_decimal` meets its contract.
use native.Mathlib.Omega.{arith}
use mathlib.Core.Path.{refl, sym, ◌∙◌}
use mathlib.Core.Logic.{inl, inr}
use Rattle.number.proofs.Laws.{get_or-all_bytes}
use Rattle.frame.proofs.ValueNodes.{value_there}
use Rattle.types.specs.Types.{resolve_decimal}
use Rattle.types.specs.Contract.{option_of}
use Rattle.types.proofs.Contents.{bytes-content, string-content, fixed-content, decimal-content}
use Rattle.types.proofs.NodeLaws.{text-reads-counted, text-node, kind-refused}
use Rattle.types.proofs.PartLaws.{counted-reads, on-counted, on-text, all-refused}
use Rattle.types.proofs.OctetLaws.{wrote-is}
use Rattle.octets.proofs.DecimalLaws.{decimal-scale, decimal-size, decimal-bytes, decimal-String, decimal-other}
use Rattle.octets.proofs.resolve_decimal.Goals as goal

pub returns-then-precision-scale : goal.returns-then-precision-scale
returns-then-precision-scale c = all-refused (resolve_decimal c.args.precision c.args.scale (option_of c.args.size)) _ _ c.requires _ _ (λ w. decimal-scale c.args.precision c.args.scale (option_of c.args.size) w c.if-precision-scale.true)

pub returns-then-fixed_too_short : goal.returns-then-fixed_too_short
returns-then-fixed_too_short c = all-refused (resolve_decimal c.args.precision c.args.scale (option_of c.args.size)) _ _ c.requires _ _ (λ w. decimal-size c.args.precision c.args.scale (option_of c.args.size) c.if-precision-scale.false w (sym c.fixed_too_short.ensures ∙ c.if-fixed_too_short.true))

pub bounds-v-0 : goal.bounds-v-0
bounds-v-0 c = (value_there _ _ c.requires).1

pub content-requires : goal.content-requires
content-requires c = counted-reads _ _ c.requires 14 decimal-content c.in-14.is

pub returns-in-14 : goal.returns-in-14
returns-in-14 c = on-counted (resolve_decimal c.args.precision c.args.scale (option_of c.args.size)) _ _ c.requires 14 _ _ _ decimal-content c.in-14.is c.content.ensures (wrote-is _ _ _ _ (decimal-bytes c.args.precision c.args.scale (option_of c.args.size) c.if-precision-scale.false (sym c.fixed_too_short.ensures ∙ c.if-fixed_too_short.false) 14 _ refl) c.decimal_of.ensures)

pub content-requires-in-6 : goal.content-requires-in-6
content-requires-in-6 c =
    elim c.in-6.is [ inl e ↦ counted-reads _ _ c.requires 6 bytes-content e | inr e ↦ counted-reads _ _ c.requires 13 fixed-content e ]

pub returns-in-6 : goal.returns-in-6
returns-in-6 c =
    elim c.in-6.is [
      | inl e ↦ on-counted (resolve_decimal c.args.precision c.args.scale (option_of c.args.size)) _ _ c.requires 6 _ _ _ bytes-content e c.content-in-6.ensures (wrote-is _ _ _ _ (decimal-bytes c.args.precision c.args.scale (option_of c.args.size) c.if-precision-scale.false (sym c.fixed_too_short.ensures ∙ c.if-fixed_too_short.false) 6 _ refl) c.decimal_of-in-6.ensures)
      | inr e ↦ on-counted (resolve_decimal c.args.precision c.args.scale (option_of c.args.size)) _ _ c.requires 13 _ _ _ fixed-content e c.content-in-6.ensures (wrote-is _ _ _ _ (decimal-bytes c.args.precision c.args.scale (option_of c.args.size) c.if-precision-scale.false (sym c.fixed_too_short.ensures ∙ c.if-fixed_too_short.false) 13 _ refl) c.decimal_of-in-6.ensures)
    ]

pub content-requires-in-7 : goal.content-requires-in-7
content-requires-in-7 c = text-reads-counted _ _ c.requires 7 string-content c.in-7.is

pub decimal_text-requires : goal.decimal_text-requires
decimal_text-requires c = ((text-node _ _ c.requires 7 string-content c.in-7.is _ _ c.content-in-7.ensures.counted).1, c.content-in-7.ensures.short)

pub returns-in-7 : goal.returns-in-7
returns-in-7 c = on-text (resolve_decimal c.args.precision c.args.scale (option_of c.args.size)) _ _ c.requires _ _ _ c.in-7.is c.content-in-7.ensures (wrote-is _ _ _ _ (decimal-String c.args.precision c.args.scale (option_of c.args.size) c.if-precision-scale.false (sym c.fixed_too_short.ensures ∙ c.if-fixed_too_short.false) _) c.decimal_text.ensures)

pub returns-in_default : goal.returns-in_default
returns-in_default c = kind-refused (resolve_decimal c.args.precision c.args.scale (option_of c.args.size)) _ _ c.requires (get_or-all_bytes c.args.v.now (λ i. omega (arith, c.type_inv.v i))) _ (λ w e. decimal-other c.args.precision c.args.scale (option_of c.args.size) c.if-precision-scale.false (sym c.fixed_too_short.ensures ∙ c.if-fixed_too_short.false) _ w e (λ k. grind arith) (λ k. grind arith) (λ k. grind arith) (λ k. grind arith)) _
