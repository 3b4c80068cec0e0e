-- What the pager's words say to the library: how a text is paged.
use Rattle.std.specs.Prelude.{◌&&◌, length, nat_lt}
use Rattle.minus_app.specs.declared.options.Options.{Options}
use Rattle.minus_view.specs.declared.arguments.Paging.{Paging}
use Rattle.minus_view.specs.Paging.{bare_opening}

-- how a text is paged, told by what is searched for, wherever that lies
abbrev pub bare_options : Options → Options
bare_options options = record options { opening = bare_opening options.opening }

-- how it is paged; one of several texts is not printed
abbrev pub options_of : Paging → Options
options_of paging = record {
  numbers = paging.numbers;
  chops = paging.chops;
  prints = paging.prints && nat_lt (length paging.texts.now) 2;
  mouse = paging.mouse;
  leaves = paging.leaves;
  case = paging.case;
  at_end = paging.at_end;
  opening = bare_opening paging.opening;
}
