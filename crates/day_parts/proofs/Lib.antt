mod DayLaws
mod RunLaws
mod SortLaws
mod FlatLaws
