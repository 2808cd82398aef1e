-- The table of names, at the numbers that the manual's readers meet most.
use Rattle.std.proofs.Common.{◌≡◌, ◌==◌, false, length, refl}
use Rattle.std.specs.List.{list_any}
use Rattle.std.specs.Prelude.{codes}
use Rattle.vsl_tags.specs.Glob.{star}
use Rattle.vsl_tags.specs.TagSet.{comma}
use Rattle.vsl_tags.specs.Tags.{last_tag, tag_names, tag_name, begin_tag, end_tag, vsl_tag}

-- there are as many names as tags
one_name_each : length tag_names ≡ last_tag
one_name_each = refl

cli_is_3 : tag_name 3 ≡ codes "CLI"
cli_is_3 = refl

-- the numbers that have a name of their own are those of the tags that they are called after
begin_is_named : tag_name begin_tag ≡ codes "Begin"
begin_is_named = refl

end_is_named : tag_name end_tag ≡ codes "End"
end_is_named = refl

vsl_is_named : tag_name vsl_tag ≡ codes "VSL"
vsl_is_named = refl

first_of_messages_is_53 : tag_name 53 ≡ codes "ReqMethod"
first_of_messages_is_53 = refl

last_of_messages_is_92 : tag_name 92 ≡ codes "ObjLost"
last_of_messages_is_92 = refl

-- no name has a star or a comma
no_name_has_a_star : list_any (list_any (λ b. b == star)) tag_names ≡ false
no_name_has_a_star = refl

no_name_has_a_comma : list_any (list_any (λ b. b == comma)) tag_names ≡ false
no_name_has_a_comma = refl
