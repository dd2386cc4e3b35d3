mod BeforeLaws
mod MergeLaws
