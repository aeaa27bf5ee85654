-- Every definition that an answer computes with, so that a proof by computation names them once.
use Prim.Native.Nat.{ℕ}
use mathlib.Core.Option.{or_else}
use lib.Ieee as ieee
use Rattle.base.specs.Base
use Rattle.number.specs.Number
use Rattle.utf8.specs.Utf8
use Rattle.text.specs.Text
use Rattle.text.specs.Read
use Rattle.decimal.specs.Decimal
use Rattle.uuid_text.specs.Uuid
use Rattle.rounding.specs.Rounding
use Rattle.scalar.specs.Conversion
use Rattle.frame.specs.Tree
use Rattle.frame.specs.Readers
use Rattle.frame.specs.ValueFrame
use Rattle.frame.specs.SchemaFrame
use Rattle.frame.specs.Sound
use Rattle.buffer.specs.After
use Rattle.types.specs.Types
use Rattle.avro.specs.Union
use Rattle.avro.specs.Resolve
use Rattle.avro.specs.Defaults
use Rattle.hulmbax.specs.Answer

unfoldable pub computed : ℕ
unfolding Base.is_some Base.after Base.accepted Number.all_bytes Number.big_endian Number.bytes_of Number.written Utf8.lead_of Utf8.step_of Utf8.run Utf8.is_utf8 Utf8.lead_digits Utf8.digits_of Utf8.points_from Utf8.code_points Text.ascii Text.same Text.less Read.◌>>=◌ Read.read_bytes Read.read_number Read.read_counted Read.read_text Decimal.largest Decimal.power_of_ten Decimal.max_prec_for_len Decimal.above Decimal.too_short_for Uuid.hex_digit Uuid.hex_pair Uuid.hex_bytes Uuid.has_hyphens Uuid.without_hyphens Uuid.hyphenated Uuid.in_braces Uuid.after_urn Uuid.uuid_of_text Rounding.round_units Rounding.magnitude Rounding.of_integer Rounding.convert_magnitude Rounding.convert Conversion.long_of_int Conversion.in_int Conversion.int_of_long Conversion.float_of_int Conversion.float_of_long Conversion.double_of_int Conversion.double_of_long Conversion.float_of_double Conversion.double_of_float Conversion.finite_double Conversion.parse_special_float Tree.kind_of Tree.number Tree.index Tree.octets Tree.items Tree.entries Tree.peel Tree.schema_kind Tree.schema_to_base_schemakind Readers.read_flag Readers.read_many Readers.read_list Readers.read_option Readers.whole ValueFrame.contents ValueFrame.items_of ValueFrame.entries_of ValueFrame.read_entry ValueFrame.read_content ValueFrame.read_value ValueFrame.decode_value ValueFrame.write_text ValueFrame.write_scalar ValueFrame.write_octets ValueFrame.count_items ValueFrame.count_entries ValueFrame.encode_value SchemaFrame.fields_of SchemaFrame.variants_of SchemaFrame.read_field SchemaFrame.read_lead SchemaFrame.read_tables SchemaFrame.read_uuid_form SchemaFrame.read_symbols SchemaFrame.read_formed SchemaFrame.read_schema_under SchemaFrame.decode_schema Sound.past_key Sound.keys_rise Sound.default_scalar Sound.default_kinds Sound.default_allowed Sound.kinds_sound Sound.positions_sound Sound.count_variants Sound.has_field Sound.uuid_size_sound Sound.schema_sound Types.resolve_null Types.resolve_boolean Types.resolve_int Types.resolve_long Types.special Types.resolve_float Types.resolve_double Types.resolve_int_time Types.resolve_long_time Types.in_byte Types.int_byte Types.try_u8 Types.byte_items Types.resolve_bytes Types.resolve_string Types.resolve_fixed Types.point_bytes Types.text_points Types.fixed_too_short Types.resolve_decimal Types.parsed_uuid Types.uuid_of_bytes Types.resolve_uuid Types.resolve_duration Types.next_place Types.position Types.enum_at Types.or_default Types.resolve_enum Types.resolve_plain Union.unnamed_kind Union.named_kind Union.lookup_kind Union.table_lookup Union.must_be_tried Union.take_variant Union.unnamed_variant Union.takes Union.named_variant Union.first_that_resolves Union.choose Union.position_of Union.by_trials Union.find_schema_with_known_schemata Union.in_union Union.resolve_union Resolve.each_item Resolve.each_entry Resolve.resolve_array Resolve.resolve_map or_else Resolve.last_under Resolve.first Resolve.field_value Resolve.resolve_record Resolve.resolve Defaults.short_start Defaults.short_default Defaults.defaults_short Answer.checked_schema Sound.checked_value After.checked_result Answer.record_answer Answer.answer After.buffer_after Answer.workspace_after ieee.size
computed = 0
