mod Examples
mod LineLaws
